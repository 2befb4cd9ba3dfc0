-- The machine of a fault before each vector of a list, from parts.
use Rattle.std.proofs.Common.{◌≡◌, ◌<◌, ◌≤◌, ◌+◌, ◌-◌, ◌++◌, ◌∷◌, [], inl, inr, ℕ, List, Bool, None, length, get_or, take, drop, sym, ◌∙◌, ap, subst, arith, length-append, length-drop}
use Rattle.std.proofs.lemmas.List.{get_or_append_left, get_or-append-add, get_or-drop, get_or-take, length-take-le}
use Rattle.std.proofs.Math.Seq.{get_or-append_seam}
use Rattle.ht_tern.specs.declared.tern.Tern.{Tern}
use Rattle.ht_net.specs.declared.fault.Fault.{Fault}
use Rattle.ht_net.specs.Circuit.Netlist.{Netlist}
use Rattle.ht_net.specs.Detect.Detection.{Detects, unknown_state}
use Rattle.ht_net.proofs.FrameLaws.{le_or_lt}
use Rattle.ht_group.specs.declared.diffs.Diff.{Diff}
use Rattle.ht_group.specs.Differences.{with_differences}
use Rattle.ht_proofs.proofs.VectorLaws.{found_inside}
use Rattle.ht_compact.specs.Kept.{continued}
use Rattle.ht_compact.specs.Moments.{HoldsMachine, IsFaultHistory, state_before}
use Rattle.ht_compact.specs.Runs.{IsRunning}
use Rattle.ht_compact.proofs.StateLaws.{AreSame, GoOnAlike, detects_later, fewer_alike, holds_alike, holds_later}
use Rattle.ht_compact.proofs.FrontLaws.{same_in_front}

-- ---- items of a continued list

-- how many items there are
pub length_continued : {A : Type 0} → (list others : List A) (from rest : ℕ) → from ≤ length list
    → length (continued from list others rest) ≡ from + length others + (length list - rest)
length_continued list others from rest inside = omega (
  arith,
  length-append (take from list) (others ++ drop rest list),
  length-append others (drop rest list),
  length-take-le from list inside,
  length-drop rest list,
)

-- an item of the front
pub continued_front : {A : Type 0} → (list others : List A) (from rest i : ℕ) (d : A) → from ≤ length list → i < from
    → get_or (continued from list others rest) i d ≡ get_or list i d
continued_front list others from rest i d inside less =
    get_or_append_left (take from list) (others ++ drop rest list) d i
    (omega (arith, less, length-take-le from list inside))
    ∙ get_or-take from list i d less

behind : {A : Type 0} → (list others : List A) (from rest k : ℕ) (d : A) → from ≤ length list
    → get_or (continued from list others rest) (from + k) d ≡ get_or (others ++ drop rest list) k d
behind {A} list others from rest k d inside =
    ap (λ (n : ℕ). get_or (take from list ++ (others ++ drop rest list)) n d)
    (ap (λ (n : ℕ). n + k) (sym (length-take-le from list inside)))
    ∙ get_or-append-add (take from list) (others ++ drop rest list) k d

-- an item that was put in
pub continued_middle : {A : Type 0} → (list others : List A) (from rest k : ℕ) (d : A) → from ≤ length list
    → k < length others → get_or (continued from list others rest) (from + k) d ≡ get_or others k d
continued_middle list others from rest k d inside less =
    behind list others from rest k d inside ∙ get_or_append_left others (drop rest list) d k less

-- an item of the rest
pub continued_rest : {A : Type 0} → (list others : List A) (from rest k : ℕ) (d : A) → from ≤ length list
    → get_or (continued from list others rest) (from + length others + k) d ≡ get_or list (rest + k) d
continued_rest {A} list others from rest k d inside =
    ap (λ (n : ℕ). get_or (continued from list others rest) n d) (omega arith)
    ∙ (behind list others from rest (length others + k) d inside
    ∙ (get_or-append-add others (drop rest list) k d ∙ get_or-drop rest list k d))

-- ---- histories from parts

-- The parts of a history: what it was before vector `from`, what follows, and what it was from `rest` on.
pub record AreParts (c : Netlist) (fault : Fault) (list : List (List Bool)) (from : ℕ) (old log : List (List Diff))
    (rest : ℕ) : Type 0 where
  pub inside : from ≤ length old
  pub last : ℕ
  pub every : from + length log + (length old - rest) ≡ last + 1
  pub output : ℕ
  pub detects : Detects c fault list last output
  pub front : (t : ℕ) → t < from → HoldsMachine c fault list t (get_or old t [])
  pub middle : (k : ℕ) → k < length log → HoldsMachine c fault list (from + k) (get_or log k [])
  pub behind : (k : ℕ) → rest + k < length old
      → HoldsMachine c fault list (from + length log + k) (get_or old (rest + k) [])

-- they make one
pub history_from : (c : Netlist) (fault : Fault) (list : List (List Bool)) (from : ℕ) (old log : List (List Diff))
    (rest : ℕ) → AreParts c fault list from old log rest → IsFaultHistory c fault list (continued from old log rest)
history_from c fault list from old log rest are = record {
  last = are.last;
  every = omega (arith, are.every, length_continued old log from rest are.inside);
  output = are.output;
  detects = are.detects;
  each = λ t within. elim (le_or_lt from t) [
    | inr before ↦
        subst (HoldsMachine c fault list t) (sym (continued_front old log from rest t [] are.inside before))
        (are.front t before)
    | inl later ↦ elim (le_or_lt (from + length log) t) [
      | inr noted ↦
          let k = t - from in
          let here : from + k ≡ t = omega (arith, later) in
          let less : k < length log = omega (arith, later, noted) in
          subst (λ (n : ℕ). HoldsMachine c fault list n (get_or (continued from old log rest) n [])) here
          (subst (HoldsMachine c fault list (from + k)) (sym (continued_middle old log from rest k [] are.inside less))
          (are.middle k less))
      | inl after ↦
          let k = t - (from + length log) in
          let here : from + length log + k ≡ t = omega (arith, after) in
          let less : rest + k < length old = omega (arith, after, within, are.every) in
          subst (λ (n : ℕ). HoldsMachine c fault list n (get_or (continued from old log rest) n [])) here
          (subst (HoldsMachine c fault list (from + length log + k))
          (sym (continued_rest old log from rest k [] are.inside)) (are.behind k less))
    ]
  ];
}

-- What a fault's history was before vector `from` it is in the shorter list.
pub record HasFront (c : Netlist) (fault : Fault) (list : List (List Bool)) (from : ℕ) (old : List (List Diff))
    : Type 0 where
  pub inside : from ≤ length old
  pub front : (t : ℕ) → t < from → HoldsMachine c fault list t (get_or old t [])

-- a fault that the next vector shows
pub shown_history : (c : Netlist) (fault : Fault) (list : List (List Bool)) (from n : ℕ)
    (old log : List (List Diff)) (diffs : List Diff) (output : ℕ) → HasFront c fault list from old
    → IsRunning c fault list from n log diffs → Detects c fault list (from + n) output
    → IsFaultHistory c fault list (continued from old (log ++ diffs ∷ []) (length old))
shown_history c fault list from n old log diffs output front is found =
    let more = log ++ diffs ∷ [] in
    let long : length more ≡ n + 1 = omega (arith, length-append log (diffs ∷ []), is.every) in
    history_from c fault list from old more (length old) (record {
      inside = front.inside;
      last = from + n;
      every = omega (arith, long);
      output = output;
      detects = found;
      front = front.front;
      middle = λ k less. elim (le_or_lt n k) [
        | inl last ↦
            let here : length log ≡ k = omega (arith, last, less, long, is.every) in
            let at : from + n ≡ from + k = omega (arith, last, less, long) in
            subst (λ (i : ℕ). HoldsMachine c fault list (from + k) (get_or more i [])) here
            (subst (HoldsMachine c fault list (from + k)) (sym (get_or-append_seam log diffs [] []))
            (subst (λ (t : ℕ). HoldsMachine c fault list t diffs) at is.now))
        | inr before ↦
            subst (HoldsMachine c fault list (from + k))
            (sym (get_or_append_left log (diffs ∷ []) [] k (omega (arith, before, is.every)))) (is.each k before)
      ];
      behind = λ k less. absurd (omega (arith, less));
    })

-- the machine of a fault that runs holds what its history has, beside a good machine that holds what it held
pub same_machine : (c : Netlist) (fault : Fault) (list other : List (List Bool)) (p q : ℕ) (diffs held : List Diff)
    → state_before c None list p ≡ state_before c None other q → held ≡ diffs
    → HoldsMachine c fault list p diffs → HoldsMachine c fault other q held → AreSame c fault list other p q
same_machine c fault list other p q diffs held good same here there = record {
  good = good;
  faulty = sym here.state
      ∙ (ap (λ (l : List Tern). with_differences l diffs) good
      ∙ (ap (with_differences (state_before c None other q)) (sym same) ∙ there.state));
}

-- a fault that has joined its history
pub joined_history : (c : Netlist) (fault : Fault) (list other : List (List Bool)) (from n q : ℕ)
    (old log : List (List Diff)) (diffs : List Diff) → HasFront c fault list from old
    → IsRunning c fault list from n log diffs → IsFaultHistory c fault other old → q < length old
    → get_or old q [] ≡ diffs → state_before c None list (from + n) ≡ state_before c None other q
    → GoOnAlike list other (from + n) q → from + n + (length other - q) ≡ length list
    → IsFaultHistory c fault list (continued from old log q)
joined_history c fault list other from n q old log diffs front is history inside same good alike long =
    let p = from + n in
    let are = same_machine c fault list other p q diffs (get_or old q []) good same is.now
    (history.each q (omega (arith, inside, history.every))) in
    let d = history.last - q in
    let last : q + d ≡ history.last = omega (arith, inside, history.every) in
    let at : from + length log ≡ p = omega (arith, is.every) in
    let within = found_inside c fault (unknown_state c) other history.last history.output history.detects in
    history_from c fault list from old log q (record {
      inside = front.inside;
      last = p + d;
      every = omega (arith, is.every, inside, history.every);
      output = history.output;
      detects = detects_later c fault list other p q d history.output alike are
          (subst (λ (t : ℕ). Detects c fault other t history.output) (sym last) history.detects);
      front = front.front;
      middle = λ k less. is.each k (omega (arith, less, is.every));
      behind = λ k less.
          subst (λ (t : ℕ). HoldsMachine c fault list (t + k) (get_or old (q + k) [])) (sym at)
          (holds_later c fault list other p q k (get_or old (q + k) []) alike are is.now.undetected
          (omega (arith, less, history.every, within, long))
          (history.each (q + k) (omega (arith, less, history.every))));
    })

-- ---- faults that take no part

-- a fault that vectors before the first one that differs detect
pub settled_history : (c : Netlist) (fault : Fault) (list other : List (List Bool)) (from : ℕ)
    (history : List (List Diff)) → take from list ≡ take from other → length history ≤ from
    → IsFaultHistory c fault other history → IsFaultHistory c fault list history
settled_history c fault list other from history same few is = record {
  last = is.last;
  every = is.every;
  output = is.output;
  detects = same_in_front c fault other list from is.last is.output (sym same) (omega (arith, few, is.every))
      is.detects;
  each = λ t within.
      holds_alike c fault other list t (get_or history t [])
      (fewer_here t (omega (arith, within, few, is.every)))
      (is.each t within);
}
  where
    fewer_here : (t : ℕ) → t ≤ from → take t other ≡ take t list
    fewer_here t less = fewer_alike other list from t (sym same) less
