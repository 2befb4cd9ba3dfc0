-- A run of the circuit with one line expanded is a run of the circuit.
use Rattle.std.proofs.Common.{◌≡◌, ℕ, List, [], ◌∷◌, ◌++◌, length, refl, ◌∙◌, ap}
use Rattle.ht_net.specs.declared.fault.Site.{Site}
use Rattle.ht_net.specs.Circuit.Netlist.{Netlist}
use Rattle.ht_net.specs.Frames.Frame.{Rules, frame_outputs, next_state, run_outputs}
use Rattle.ht_net.proofs.ValueLaws.{next_long}
use Rattle.ht_slow.specs.Slow.{outputs_with, carried, IsLine}
use Rattle.ht_slow.specs.ExpandedLine.{moved_line, expanded_line}
use Rattle.ht_slow.proofs.DepthLaws.{expanded_depth}
use Rattle.ht_slow.proofs.FrameLaws.{Expands, frame_shows, frame_takes, carried_alike}
use Rattle.ht_slow.proofs.Wired.{IsWired}
use Rattle.ht_slow.proofs.WiredLaws.{line_inside}

module _ (c : Netlist) (site : Site) (names : List (List ℕ)) where
  abbrev big : Netlist
  big = expanded_line c site names

  module _ {V : Type 0} (wired : IsWired c) (here : IsLine c site) where
    -- the line's own changes: the machine with one value more is one of the expanded circuit
    pub runs_own : (r : V → Rules V) (s : Rules V) (change : V → V → V)
        → ((b : V) → Expands c site (r b) s b (change b))
        → (before : V) (latches : List V) → length latches ≡ length c.dffs → (vectors : List (List V))
        → run_outputs big s (latches ++ before ∷ []) vectors ≡ outputs_with c site r before latches vectors
    runs_own r s change ex before latches many [] = refl
    runs_own r s change ex before latches many (vector ∷ vectors) =
        let inside = line_inside c site wired here in
        let wide = expanded_depth c site names wired.depth wired.deep inside in
        let row : frame_outputs big s vector (latches ++ before ∷ []) ≡ frame_outputs c (r before) vector latches =
        frame_shows c site names (r before) s vector latches before (change before) (ex before) wired.depth wired.deep
        inside many wide.0 wide.1 wired.outputs_known in
        let next : next_state big s vector (latches ++ before ∷ [])
        ≡ next_state c (r before) vector latches ++ carried c (r before) vector latches site ∷ [] =
        frame_takes c site names (r before) s vector latches before (change before) (ex before) wired.depth wired.deep
        inside many wide.0 wide.1 wired.data_known in
        let rest = runs_own r s change ex (carried c (r before) vector latches site)
        (next_state c (r before) vector latches) (next_long c (r before) vector latches) vectors in
        ap (λ (shown : List V). shown
        ∷ run_outputs big s (next_state big s vector (latches ++ before ∷ [])) vectors) row
        ∙ ap (λ (rows : List (List V)). frame_outputs c (r before) vector latches ∷ rows)
        (ap (λ (state : List V). run_outputs big s state vectors) next ∙ rest)

    -- another line: the machine with one value more stays one
    pub runs_other : (line : Site) → IsLine c line → (r s : V → Rules V)
        → ((b p : V) → Expands c site (r b) (s b) p (λ v. v))
        → (before past : V) (latches : List V) → length latches ≡ length c.dffs → (vectors : List (List V))
        → outputs_with big (moved_line c line) s before (latches ++ past ∷ []) vectors
        ≡ outputs_with c line r before latches vectors
    runs_other line there r s ex before past latches many [] = refl
    runs_other line there r s ex before past latches many (vector ∷ vectors) =
        let inside = line_inside c site wired here in
        let wide = expanded_depth c site names wired.depth wired.deep inside in
        let state : List V = latches ++ past ∷ [] in
        let keeps = ex before past in
        let row : frame_outputs big (s before) vector state ≡ frame_outputs c (r before) vector latches =
        frame_shows c site names (r before) (s before) vector latches past (λ v. v) keeps wired.depth wired.deep
        inside many wide.0 wide.1 wired.outputs_known in
        let next : next_state big (s before) vector state
        ≡ next_state c (r before) vector latches ++ carried c (r before) vector latches site ∷ [] =
        frame_takes c site names (r before) (s before) vector latches past (λ v. v) keeps wired.depth wired.deep
        inside many wide.0 wide.1 wired.data_known in
        let same : carried big (s before) vector state (moved_line c line) ≡ carried c (r before) vector latches line =
        carried_alike c site names (r before) (s before) vector latches past (λ v. v) keeps wired.depth wired.deep
        inside many wide.0 wide.1 (λ u. refl) wired.data_known line there in
        let rest = runs_other line there r s ex (carried c (r before) vector latches line)
        (carried c (r before) vector latches site)
        (next_state c (r before) vector latches) (next_long c (r before) vector latches) vectors in
        ap (λ (shown : List V). shown ∷ outputs_with big (moved_line c line) s
        (carried big (s before) vector state (moved_line c line)) (next_state big (s before) vector state) vectors) row
        ∙ ap (λ (rows : List (List V)). frame_outputs c (r before) vector latches ∷ rows)
        (ap (λ (v : V). outputs_with big (moved_line c line) s v (next_state big (s before) vector state) vectors) same
        ∙ (ap (λ (latched : List V). outputs_with big (moved_line c line) s (carried c (r before) vector latches line)
        latched vectors) next ∙ rest))

    -- rules that go by no value of the frame before
    const_outputs : (d : Netlist) (line : Site) (r : Rules V) (before : V) (latches : List V) (vectors : List (List V))
        → outputs_with d line (λ b. r) before latches vectors ≡ run_outputs d r latches vectors
    const_outputs d line r before latches [] = refl
    const_outputs d line r before latches (vector ∷ vectors) =
        ap (λ (rows : List (List V)). frame_outputs d r vector latches ∷ rows)
        (const_outputs d line r (carried d r vector latches line) (next_state d r vector latches) vectors)

    pub runs_kept : (r s : Rules V) → ((p : V) → Expands c site r s p (λ v. v))
        → (past : V) (latches : List V) → length latches ≡ length c.dffs → (vectors : List (List V))
        → run_outputs big s (latches ++ past ∷ []) vectors ≡ run_outputs c r latches vectors
    runs_kept r s ex past latches many vectors =
        runs_own (λ b. r) s (λ b v. v) ex past latches many vectors ∙ const_outputs c site r past latches vectors
