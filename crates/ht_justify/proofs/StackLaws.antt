-- Windows that stand one under the other, and the node of a back walk where the deepest of them stands.
use Rattle.std.proofs.Common.{◌≡◌, ◌<◌, ◌-◌, ℕ, suc, zero, List, [], ◌∷◌, ◌++◌, map, reverse, Bool, length, get_or, drop, refl, sym, ◌∙◌, ap, subst, arith}
use Rattle.std.proofs.lemmas.List.{reverse-reverse, reverse-append, map-append, length-append}
use Rattle.std.proofs.Math.Seq.{drop-cons}
use Rattle.ht_tern.specs.declared.tern.Tern.{Tern}
use Rattle.ht_net.specs.Circuit.Netlist.{Netlist}
use Rattle.ht_tree.specs.declared.token.Assign3.{Assign3}
use Rattle.ht_tree.specs.Walk.Walks.{Node, path_of}
use Rattle.ht_tree.specs.Window.Windows.{SearchWindow, back_window}
use Rattle.ht_tree.specs.Window.Nodes.{IsNode, cube_of, window_at, window_below}
use Rattle.ht_tree.specs.Walk.FoundLists.{back_list, vector_of, vectors_above}
use Rattle.ht_tree.proofs.NodeLaws.{window_kept, node_kept, window_opened, node_opened}
use Rattle.ht_search.specs.WindowSteps.{Step, Decides, node_of, steps_of, steps_above, steps_under}
use Rattle.ht_search.proofs.WindowStepLaws.{window_path}
use Rattle.ht_records.proofs.WindowVectorLaws.{AreAtMost, above_decide, at_most_more, at_most_push, list_under}
use Rattle.ht_window.specs.States.{WindowState}
use Rattle.ht_justify.specs.Stacks.{AreUnder, decisions_of, window_under}

-- a window of one frame of a circuit
abbrev pub IsBackOf : Netlist → SearchWindow → Type 0
IsBackOf c w = (w.circuit ≡ c) × (w.frames ≡ 1)

-- the vectors of windows, by their decisions
abbrev pub vectors_back : Netlist → List (List Assign3) → List (List Bool)
vectors_back c each = map (λ decisions. vector_of c decisions 0) each

-- the decisions of windows in reverse are the windows' decisions in reverse
pub decisions_reverse : (states : List WindowState) → decisions_of (reverse states) ≡ reverse (decisions_of states)
decisions_reverse [] = refl
decisions_reverse (s ∷ states) =
    ap decisions_of (reverse-append (s ∷ []) states)
    ∙ (map-append _ (reverse states) (s ∷ [])
    ∙ (ap (λ (t : List (List Assign3)). t ++ s.decisions ∷ []) (decisions_reverse states)
    ∙ sym (reverse-append (s.decisions ∷ []) (decisions_of states))))

-- one more window at the end adds its decisions at the end
pub decisions_push : (states all : List WindowState) (s : WindowState) → all ≡ states ++ s ∷ []
    → decisions_of all ≡ decisions_of states ++ s.decisions ∷ []
decisions_push states all s is = ap decisions_of is ∙ map-append _ states (s ∷ [])

-- the path of the deepest window is its decisions
own_path : (older : List (List Assign3)) (ds : List Assign3)
    → path_of (node_of (steps_of ds ++ steps_above older)) ≡ ds
own_path older ds =
    ap (λ (t : List (List Assign3)). path_of (node_of (steps_of ds ++ steps_above t))) (sym (reverse-reverse older))
    ∙ window_path (reverse older) ds

module _ (c : Netlist) (cube : List Tern) (limit : ℕ) where
  -- A node in the window under others, of which the nearest comes first: the window, and the vectors of those above.
  pub record IsUnder (older : List (List Assign3)) (n : Node) : Type 0 where
    pub window : window_at (back_window c cube limit) n ≡ window_under c cube limit older
    pub node : IsNode n
    pub began : AreAtMost (length n.decisions) n.windows
    pub vectors : vectors_above c 0 n.windows n.decisions ≡ vectors_back c older

  under_decided : (older : List (List Assign3)) (xs : List Assign3) (t : List Step) → IsUnder older (node_of t)
      → IsUnder older (node_of (map Decides xs ++ t))
  under_decided older [] t is = is
  under_decided older (a ∷ xs) t is =
      let h = under_decided older xs t is in
      let n = node_of (map Decides xs ++ t) in
      let l = length-append n.decisions (a ∷ []) in
      record {
        window = window_kept (back_window c cube limit) n a.var a.value h.node ∙ h.window;
        node = node_kept n a.var a.value h.node;
        began =
            at_most_more (length n.decisions) (length (n.decisions ++ a ∷ [])) n.windows (omega (arith, l)) h.began;
        vectors = above_decide c 0 n.windows n.decisions a h.began ∙ h.vectors;
      }

  under_entered : (older : List (List Assign3)) → IsUnder older (node_of (steps_above older))
  under_entered [] = record { window = refl; node = omega arith; began = tt; vectors = refl }
  under_entered (ds ∷ older) =
      let n = node_of (steps_of ds ++ steps_above older) in
      let h = under_decided older (reverse ds) (steps_above older) (under_entered older) in
      let less : limit - length older - 1 ≡ limit - length (ds ∷ older) = omega arith in
      record {
        window = window_opened (back_window c cube limit) n
            ∙ ((λ k. window_below (h.window k) (own_path older ds k)) ∙ ap (back_window c (cube_of c ds)) less);
        node = node_opened n;
        began = at_most_push (length n.decisions) n.windows h.began;
        vectors = list_under c n ∙ (λ k. vector_of c (own_path older ds k) 0 ∷ h.vectors k);
      }

  -- the node of the decisions of all windows is in the deepest window, under those above it
  pub under_all : (above : List (List Assign3)) (ds : List Assign3)
      → IsUnder (reverse above) (node_of (steps_under above ds))
  under_all above ds =
      under_decided (reverse above) (reverse ds) (steps_above (reverse above)) (under_entered (reverse above))

  -- the list of a node is that of the windows
  pub list_is : (above : List (List Assign3)) (ds : List Assign3)
      → vectors_back c (ds ∷ reverse above) ≡ back_list c (node_of (steps_under above ds))
  list_is above ds =
      let h = under_all above ds in
      (λ k. vector_of c (sym (window_path above ds) k) 0 ∷ sym h.vectors k)

  -- the deepest window is left
  pub under_last : (above all : List WindowState) (last now : WindowState) → all ≡ above ++ last ∷ []
      → AreUnder c cube limit (now ∷ reverse all) → AreUnder c cube limit (last ∷ reverse above)
  under_last above all last now is h =
      let split = ap reverse is ∙ reverse-append above (last ∷ []) in
      (subst (λ (t : List WindowState). AreUnder c cube limit (now ∷ t)) split h).1

  -- each window is one of a back walk
  pub back_at : (states : List WindowState) → AreUnder c cube limit states → (k : ℕ) (d : WindowState)
      → k < length states → IsBackOf c (get_or states k d).window
  back_at [] h k d l = absurd (omega (arith, l))
  back_at (s ∷ older) h zero d l =
      (ap (λ (w : SearchWindow). w.circuit) h.0, ap (λ (w : SearchWindow). w.frames) h.0)
  back_at (s ∷ older) h (suc k) d l = back_at older h.1 k d (omega (arith, l))

-- the vector of the next window above, from the deepest on
pub list_grows : (c : Netlist) (above : List (List Assign3)) (own ds : List Assign3) (k n : ℕ) → suc n ≡ k
    → n < length above → get_or above n [] ≡ ds
    → vectors_back c (own ∷ reverse (drop k above)) ++ vector_of c ds 0 ∷ []
    ≡ vectors_back c (own ∷ reverse (drop n above))
list_grows c above own ds k n next l at =
    let back : reverse (drop n above) ≡ reverse (drop k above) ++ ds ∷ [] =
    ap reverse (drop-cons above n [] l)
    ∙ (reverse-append (get_or above n [] ∷ []) (drop (suc n) above)
    ∙ (λ j. reverse (drop (next j) above) ++ at j ∷ [])) in
    sym (map-append (λ (ds : List Assign3). vector_of c ds 0) (own ∷ reverse (drop k above)) (ds ∷ []))
    ∙ ap (λ (t : List (List Assign3)). vectors_back c (own ∷ t)) (sym back)
