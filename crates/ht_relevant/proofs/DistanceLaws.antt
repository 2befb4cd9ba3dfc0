-- Numbers that are found, nearest first.
use Rattle.std.proofs.Common.{◌≡◌, ◌∙◌, ◌<◌, ◌≤◌, ◌+◌, ◌⊎◌, ℕ, List, [], ◌∷◌, ◌++◌, Bool, cond, length, get_or, set, replicate, refl, sym, ap, subst, inl, inr, arith, get_or-set_other, get_or-set_same}
use Rattle.std.specs.List.{Contains}
use Rattle.std.proofs.lemmas.Bool.Decides.{eqb_tells}
use Rattle.std.proofs.lemmas.List.{get_or_past, get_or-replicate, length-set, length_push, length-replicate}
use Rattle.std.proofs.lemmas.List.Elements.{Contains-push, Contains-append_left, Contains-push_cases}
use Rattle.std.proofs.lemmas.List.Sums.{sum_by-set}
use Rattle.std.proofs.lemmas.Bool.{lt-ltb, le-ltb}
use Rattle.ht_net.specs.Circuit.Netlist.{Netlist}
use Rattle.ht_relevant.specs.declared.way.Way.{Way}
use Rattle.ht_relevant.specs.Steps.{AreSpread}
use Rattle.ht_relevant.specs.Distances.{DistanceState, AreDistances, AreFollowed, HasGrown, IsFollowed, IsLower, number_of, if_none}

empty : {A : Type 0} (i : ℕ) → Contains [] i → A
empty i h = let l = h.1 in absurd (omega (arith, l))

-- a net with a number is one of the nets
pub numbered_inside : (s : DistanceState) (x : ℕ) → number_of s x < s.frames → x < length s.numbers
numbered_inside s x h = elim (less_or s.numbers x) [
  | inl l ↦ l
  | inr past ↦ let e = get_or_past s.numbers x s.frames past in absurd (omega (arith, h, e))
] where
  less_or : (l : List ℕ) (x : ℕ) → (x < length l) ⊎ (length l ≤ x)
  less_or l x = grind arith

-- ---- numbers that grow

-- no number has risen where nothing changed
pub lower_same : (s : DistanceState) → IsLower s s
lower_same s = record { frames = refl; count = refl; lower = λ x. omega arith }

-- where no number has risen in each of two steps, none has risen in both together
pub lower_more : (s t u : DistanceState) → IsLower s t → IsLower t u → IsLower s u
lower_more s t u h k = record {
  frames = k.frames ∙ h.frames;
  count = k.count ∙ h.count;
  lower = λ x. let a = h.lower x in let b = k.lower x in omega (arith, a, b);
}

-- numbers have grown where nothing changed
pub grown_same : (s : DistanceState) → HasGrown s s
grown_same s = record {
  lower = lower_same s;
  distance = refl;
  kept = λ x h. refl;
  new = λ x h. inl h;
  waits = λ x h. h;
  later = λ x h. h;
  left = refl;
}

-- numbers that have grown in each of two steps have grown in both together
pub grown_more : (s t u : DistanceState) → HasGrown s t → HasGrown t u → HasGrown s u
grown_more s t u h k = record {
  lower = lower_more s t u h.lower k.lower;
  distance = k.distance ∙ h.distance;
  kept = λ x n.
      let e = h.kept x n in
      let f = h.lower.frames in
      k.kept x (omega (arith, n, e, f)) ∙ e;
  new = λ x n. elim (k.new x (let f = h.lower.frames in omega (arith, n, f))) [
    | inl l ↦ elim (h.new x (let f = h.lower.frames in omega (arith, l, f))) [
      | inl old ↦ inl old
      | inr wait ↦ inr (k.waits x wait)
    ]
    | inr wait ↦ inr wait
  ];
  waits = λ x w. k.waits x (h.waits x w);
  later = λ x w. k.later x (h.later x w);
  left = k.left ∙ h.left;
}

-- ---- one more number

-- net x with the number of the distance
abbrev pub with_number : DistanceState → ℕ → DistanceState
with_number s x = record {
  frames = s.frames;
  distance = s.distance;
  numbers = set s.numbers x s.distance;
  here = s.here ++ x ∷ [];
  next = s.next;
}

module _ (s : DistanceState) (x : ℕ) (l : x < length s.numbers) where
  number_there : number_of (with_number s x) x ≡ s.distance
  number_there = get_or-set_same s.numbers x s.distance s.frames l

  number_elsewhere : (y : ℕ) → (y ≡ x → ⊥) → number_of (with_number s x) y ≡ number_of s y
  number_elsewhere y other = get_or-set_other s.numbers x y s.distance s.frames (λ same. other same)

  number_cases : (y : ℕ) → ((y ≡ x) × (number_of (with_number s x) y ≡ s.distance))
      ⊎ (number_of (with_number s x) y ≡ number_of s y)
  number_cases y = elim (eqb_tells x y) [
    | inl e ↦ inl (sym e.1, subst (λ (n : ℕ). number_of (with_number s x) n ≡ s.distance) e.1 number_there)
    | inr e ↦ inr (number_elsewhere y (λ same. e.1 (sym same)))
  ]

  -- numbers have grown after a net without one gets the number of the distance
  pub put_grown : s.distance < s.frames → s.frames ≤ number_of s x → HasGrown s (with_number s x)
  put_grown inside free = record {
    lower = record {
      frames = refl;
      count = length-set s.numbers x s.distance;
      lower = λ y. elim (number_cases y) [
        | inl e ↦
            let d = e.1 in
            let same : number_of s y ≡ number_of s x = ap (number_of s) e.0 in
            omega (arith, d, same, inside, free)
        | inr e ↦ omega (arith, e)
      ];
    };
    distance = refl;
    kept = λ y n. elim (number_cases y) [
      | inl e ↦ let same : number_of s y ≡ number_of s x = ap (number_of s) e.0 in absurd (omega (arith, same, n, free))
      | inr e ↦ e
    ];
    new = λ y n. elim (number_cases y) [
      | inl e ↦ inr (subst (Contains (s.here ++ x ∷ [])) (sym e.0) (Contains-push s.here x))
      | inr e ↦ inl (omega (arith, e, n))
    ];
    waits = λ y w. Contains-append_left s.here (x ∷ []) y w;
    later = λ y w. w;
    left = (
        let sums = sum_by-set (if_none s.frames) s.numbers x s.distance s.frames l in
        let none : if_none s.frames (number_of s x) ≡ 1 =
        ap (λ (b : Bool). cond b 0 1) (le-ltb (number_of s x) s.frames free) in
        let some : if_none s.frames s.distance ≡ 0 =
        ap (λ (b : Bool). cond b 0 1) (lt-ltb s.distance s.frames inside) in
        let more = length_push s.here x in
        omega (arith, sums, none, some, more)
        );
  }

  -- numbers are still distances after a net gets the number of the distance
  pub put_distances : AreDistances s → AreDistances (with_number s x)
  put_distances h = record {
    few = h.few;
    inside = h.inside;
    most = λ y n. elim (number_cases y) [
      | inl e ↦ let d = e.1 in omega (arith, d)
      | inr e ↦ let m = h.most y (omega (arith, e, n)) in omega (arith, e, m)
    ];
    here = λ y w. elim (number_cases y) [
      | inl e ↦ e.1
      | inr e ↦ elim (Contains-push_cases s.here x y w) [
        | inl old ↦ e ∙ h.here y old
        | inr same ↦ subst (λ (n : ℕ). number_of (with_number s x) n ≡ s.distance) same number_there
      ]
    ];
    next = λ y w. let a = h.next y w in let c = length-set s.numbers x s.distance in omega (arith, a, c);
  }

-- ---- one more net that is to get a number

-- numbers have grown after one more net is to get one a frame on
pub next_grown : (s : DistanceState) (x : ℕ) → HasGrown s (record s { next = s.next ++ x ∷ [] })
next_grown s x = record {
  lower = record { frames = refl; count = refl; lower = λ y. omega arith };
  distance = refl;
  kept = λ y h. refl;
  new = λ y h. inl h;
  waits = λ y h. h;
  later = λ y h. Contains-append_left s.next (x ∷ []) y h;
  left = refl;
}

-- numbers are still distances after one more net is to get one a frame on
pub next_distances : (s : DistanceState) (x : ℕ) → x < length s.numbers → AreDistances s
    → AreDistances (record s { next = s.next ++ x ∷ [] })
next_distances s x l h = record {
  few = h.few;
  inside = h.inside;
  most = h.most;
  here = h.here;
  next = λ y w. elim (Contains-push_cases s.next x y w) [
    | inl old ↦ h.next y old
    | inr same ↦ omega (arith, same, l)
  ];
}

-- ---- what is followed

-- where no net has a number nothing is to be followed
none_followed : (c : Netlist) (way : Way) (least : ℕ) (s : DistanceState)
    → ((x : ℕ) → s.frames ≤ number_of s x) → AreFollowed c way least s
none_followed c way least s none = record {
  within = λ x y leads n. let f = none x in absurd (omega (arith, f, n));
  on = λ x y leads n. let f = none x in absurd (omega (arith, f, n));
}

none_numbered : (frames n x : ℕ) → frames ≤ get_or (replicate n frames) x frames
none_numbered frames n x = elim (less_or n x) [
  | inl l ↦ let e = get_or-replicate n x frames frames l in omega (arith, e)
  | inr past ↦
      let c = length-replicate n frames in
      let e = get_or_past (replicate n frames) x frames (omega (arith, past, c)) in
      omega (arith, e)
] where
  less_or : (n x : ℕ) → (x < n) ⊎ (n ≤ x)
  less_or n x = grind arith

module _ (c : Netlist) (way : Way) (least : ℕ) (s t : DistanceState) (grown : HasGrown s t) where
  grown_followed : AreFollowed c way least s → AreFollowed c way least t
  grown_followed h = record {
    within = λ x y leads n. elim (grown.new x (let f = grown.lower.frames in omega (arith, n, f))) [
      | inl old ↦ elim (h.within x y leads old) [
        | inl less ↦
            let k = grown.kept x old in
            let l = grown.lower.lower y in
            inl (omega (arith, less, k, l))
        | inr wait ↦ inr (grown.waits x wait)
      ]
      | inr wait ↦ inr wait
    ];
    on = λ x y leads n. elim (grown.new x (let f = grown.lower.frames in omega (arith, n, f))) [
      | inl old ↦
          let k = grown.kept x old in
          let f = grown.lower.frames in
          elim (h.on x y leads (omega (arith, n, k, f))) [
            | inl (inl less) ↦ let l = grown.lower.lower y in inl (inl (omega (arith, less, k, l)))
            | inl (inr due) ↦ let d = due.1 in inl (inr (grown.later y due.0, omega (arith, d, k)))
            | inr wait ↦ inr (grown.waits x wait)
          ]
      | inr wait ↦ inr wait
    ];
  }

  -- The nets that were to be followed still are or have been, and those that were to get a number one frame on still
  -- are or have it.
  followed_on : (here next : List ℕ) → least ≤ s.distance
      → ((y : ℕ) → Contains here y → Contains t.here y ⊎ ((number_of s y ≡ s.distance) × IsFollowed c way t y))
      → ((z : ℕ) → Contains next z → Contains t.next z ⊎ (number_of t z ≤ least + 1))
      → AreFollowed c way least (record s { here = here; next = next }) → AreFollowed c way least t
  followed_on here next low wait due h =
      let f = grown.lower.frames in
      let d = grown.distance in
      record {
        within = λ y z leads n. elim (grown.new y (omega (arith, n, f))) [
          | inl old ↦
              let k = grown.kept y old in
              elim (h.within y z leads old) [
                | inl less ↦ let l = grown.lower.lower z in inl (omega (arith, less, k, l))
                | inr w ↦ elim (wait y w) [
                  | inl still ↦ inr still
                  | inr done ↦
                      let at = done.0 in
                      let l = done.1.within z leads in
                      inl (omega (arith, l, k, at, d))
                ]
              ]
          | inr still ↦ inr still
        ];
        on = λ y z leads n. elim (grown.new y (omega (arith, n, f))) [
          | inl old ↦
              let k = grown.kept y old in
              elim (h.on y z leads (omega (arith, n, k, f))) [
                | inl (inl less) ↦ let l = grown.lower.lower z in inl (inl (omega (arith, less, k, l)))
                | inl (inr owed) ↦
                    let m = owed.1 in
                    elim (due z owed.0) [
                      | inl still ↦ inl (inr (still, omega (arith, m, k)))
                      | inr got ↦ inl (inl (omega (arith, got, m, k)))
                    ]
                | inr w ↦ elim (wait y w) [
                  | inl still ↦ inr still
                  | inr done ↦ let at = done.0 in inl (inr (done.1.on z leads, omega (arith, k, at, low)))
                ]
              ]
          | inr still ↦ inr still
        ];
      }

-- the last net of this distance that was to be followed is
pub popped_followed : (c : Netlist) (way : Way) (s t : DistanceState) (x : ℕ) → number_of s x ≡ s.distance
    → HasGrown s t → IsFollowed c way t x → AreFollowed c way s.distance (record s { here = s.here ++ x ∷ [] })
    → AreFollowed c way t.distance t
popped_followed c way s t x at grown followed h =
    subst (λ (n : ℕ). AreFollowed c way n t) (sym grown.distance)
    (followed_on c way s.distance s t grown (s.here ++ x ∷ []) s.next (omega arith)
    (λ y w. elim (Contains-push_cases s.here x y w) [
      | inl before ↦ inl (grown.waits y before)
      | inr same ↦ inr (ap (number_of s) (sym same) ∙ at, subst (IsFollowed c way t) same followed)
    ])
    (λ z w. inl (grown.later z w)) h)

-- what was to get a number one frame on has got it
pub next_followed : (c : Netlist) (way : Way) (least : ℕ) (s t : DistanceState) (x : ℕ) → s.distance ≡ least + 1
    → HasGrown s t → number_of t x ≤ t.distance
    → AreFollowed c way least (record s { next = s.next ++ x ∷ [] }) → AreFollowed c way least t
next_followed c way least s t x one grown put h =
    followed_on c way least s t grown s.here (s.next ++ x ∷ []) (omega (arith, one))
    (λ y w. inl (grown.waits y w))
    (λ z w. elim (Contains-push_cases s.next x z w) [
      | inl before ↦ inl (grown.later z before)
      | inr same ↦
          let there : number_of t z ≡ number_of t x = ap (number_of t) (sym same) in
          let d = grown.distance in
          inr (omega (arith, put, there, d, one))
    ]) h

-- where none is to get a number one frame on, it doesn't matter how far away that is
pub any_least : (c : Netlist) (way : Way) (least more : ℕ) (s : DistanceState) → s.next ≡ []
    → AreFollowed c way least s → AreFollowed c way more s
any_least c way least more s none h = record {
  within = h.within;
  on = λ x y leads n. elim (h.on x y leads n) [
    | inl (inl less) ↦ inl (inl less)
    | inl (inr due) ↦ empty y (subst (λ (l : List ℕ). Contains l y) none due.0)
    | inr wait ↦ inr wait
  ];
}

-- where none is left at the last distance, all is spread
pub all_spread : (c : Netlist) (way : Way) (s : DistanceState) → s.here ≡ [] → s.distance + 1 ≡ s.frames
    → AreFollowed c way s.distance s → AreSpread c way s.frames (number_of s)
all_spread c way s none last h = record {
  within = λ x y leads n. elim (h.within x y leads n) [
    | inl less ↦ less
    | inr wait ↦ empty x (subst (λ (l : List ℕ). Contains l x) none wait)
  ];
  on = λ x y leads n. elim (h.on x y leads n) [
    | inl (inl less) ↦ less
    | inl (inr due) ↦ let m = due.1 in absurd (omega (arith, m, n, last))
    | inr wait ↦ empty x (subst (λ (l : List ℕ). Contains l x) none wait)
  ];
}

-- ---- one net less

-- a list contains its last item
pub last_in : {xs : List ℕ} {x : ℕ} (rest : List ℕ) → xs ≡ rest ++ x ∷ [] → Contains xs x
last_in {xs} {x} rest is = subst (λ (l : List ℕ). Contains l x) (sym is) (Contains-push rest x)

front_in : {xs : List ℕ} (rest gone : List ℕ) → xs ≡ rest ++ gone → (y : ℕ) → Contains rest y → Contains xs y
front_in rest gone is y w =
    subst (λ (l : List ℕ). Contains l y) (sym is) (Contains-append_left rest gone y w)

fewer_left : (s : DistanceState) (here next : List ℕ) → AreDistances s
    → ((y : ℕ) → Contains here y → Contains s.here y) → ((y : ℕ) → Contains next y → Contains s.next y)
    → AreDistances (record s { here = here; next = next })
fewer_left s here next h few later = record {
  few = h.few;
  inside = h.inside;
  most = h.most;
  here = λ y w. h.here y (few y w);
  next = λ y w. h.next y (later y w);
}

-- numbers are still distances where fewer nets of this distance are to be followed
pub here_less : {s : DistanceState} {rest : List ℕ} (gone : List ℕ) → AreDistances s → s.here ≡ rest ++ gone
    → AreDistances (record s { here = rest })
here_less {s} {rest} gone h is = fewer_left s rest s.next h (front_in rest gone is) (λ y w. w)

-- numbers are still distances where fewer nets are to get one a frame on
pub next_less : {s : DistanceState} {rest : List ℕ} (gone : List ℕ) → AreDistances s → s.next ≡ rest ++ gone
    → AreDistances (record s { next = rest })
next_less {s} {rest} gone h is = fewer_left s s.here rest h (λ y w. w) (front_in rest gone is)

-- a net that is to be followed is one of the nets that numbers are kept for
pub here_inside : {s : DistanceState} {x : ℕ} → AreDistances s → Contains s.here x → x < length s.numbers
here_inside {s} {x} h w =
    let e = h.here x w in
    let l = h.inside in
    numbered_inside s x (omega (arith, e, l))

-- no number
abbrev pub fresh : ℕ → ℕ → DistanceState
fresh nets frames = record { frames = frames; distance = 0; numbers = replicate nets frames; here = []; next = [] }

fresh_followed : (c : Netlist) (way : Way) (nets frames : ℕ) (s : DistanceState) → s ≡ fresh nets frames
    → AreFollowed c way 0 s
fresh_followed c way nets frames s e =
    subst (AreFollowed c way 0) (sym e) (none_followed c way 0 (fresh nets frames) (none_numbered frames nets))

-- Numbers that were put first, in two steps, where no net had one.
pub record AreFirst (n : ℕ) (s t : DistanceState) : Type 0 where
  pub followed : (c : Netlist) (way : Way) → AreFollowed c way 0 t
  pub zero : s.distance ≡ 0
  pub frames : t.frames ≡ n

-- numbers put in two steps, where no net had one, are first numbers, of distance 0
pub first_put : {frames : ℕ} {none s t : DistanceState} (nets : ℕ) → none ≡ fresh nets frames → HasGrown none s
    → HasGrown s t → AreFirst frames s t
first_put {frames} {none} {s} {t} nets e one two = record {
  followed = λ c way.
      grown_followed c way 0 s t two (grown_followed c way 0 none s one (fresh_followed c way nets frames none e));
  zero = one.distance ∙ ap (λ (d : DistanceState). d.distance) e;
  frames = two.lower.frames ∙ (one.lower.frames ∙ ap (λ (d : DistanceState). d.frames) e);
}

-- what is spread is, under another name of the circuit and of the number of frames
pub spread_under : {c m : Netlist} {way : Way} {frames most : ℕ} {number : ℕ → ℕ} → c ≡ m → frames ≡ most
    → AreSpread c way frames number → AreSpread m way most number
spread_under {c} {m} {way} {frames} {most} {number} same count h =
    subst (λ (k : Netlist). AreSpread k way most number) same
    (subst (λ (n : ℕ). AreSpread c way n number) count h)
