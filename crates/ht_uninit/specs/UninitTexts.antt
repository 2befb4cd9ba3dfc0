-- The text of a record: a head line, the removals in their order, the walks of the flip-flops that are held to the end,
-- the outputs, a line for each fault, and the total. Lines that are defined by themselves are without their LF. The
-- record is of the whole fault list, so that the mark of a fault has the fault's number.
use Rattle.std.specs.Prelude.{◌-◌, ℕ, List, [], ◌∷◌, ◌++◌, if◌then◌else◌, Bool, true, false, length, get_or, map, flat_map, Option, Some, None, count_by, codes}
use Rattle.std.specs.List.{range_with_len}
use Rattle.ht_tern.specs.declared.tern.Tern.{Tern}
use Rattle.ht_tern.specs.declared.tern.Tern.TheVariants.{One, Unk, Zero}
use Rattle.ht_net.specs.Circuit.Netlist.{Netlist}
use Rattle.ht_tree.specs.declared.token.Assign3.{Assign3}
use Rattle.ht_tree.specs.declared.token.Token.{Token}
use Rattle.ht_faults.specs.Sites.{faults_of}
use Rattle.ht_faults.specs.Classes.{class_count, is_representative, own_representatives}
use Rattle.ht_texts.specs.declared.said.Said.TheVariants.{Undetected}
use Rattle.ht_texts.specs.Lines.{with_lf, with_lfs}
use Rattle.ht_texts.specs.Pieces.{Piece, word, number, pieces_text}
use Rattle.ht_texts.specs.Reports.{fault_line, line_front}
use Rattle.ht_entries.specs.ProofLines.{numbered_from_1, token_text}
use Rattle.ht_uninit.specs.declared.record.Out3.{Out3}
use Rattle.ht_uninit.specs.declared.record.Out3.TheVariants.{Mute, Open, Seen}
use Rattle.ht_uninit.specs.declared.record.Removed.{Removed}
use Rattle.ht_uninit.specs.declared.record.Removed.TheVariants.{Free, Spent}
use Rattle.ht_uninit.specs.Records.{UninitState}

-- ---- decisions and walks

-- the value of a decision
abbrev pub value_text : Tern → List ℕ
value_text Zero = codes " 0"
value_text One = codes " 1"
value_text Unk = codes " X"

-- the line of a decision, by its variable's number from 1
abbrev pub decision_text : Assign3 → List ℕ
decision_text set = numbered_from_1 (codes "set ") set.var ++ value_text set.value

-- a line of a word and the number, from 1, of what has this index, and below it a line for each token of a walk
abbrev pub walk_text : List ℕ → ℕ → List Token → List ℕ
walk_text name index tokens = with_lf (numbered_from_1 name index) ++ with_lfs (map token_text tokens)

-- the same with a line for each decision
abbrev pub decisions_text : List ℕ → ℕ → List Assign3 → List ℕ
decisions_text name index sets = with_lf (numbered_from_1 name index) ++ with_lfs (map decision_text sets)

-- ---- flip-flops and outputs

-- a removal, with the decisions that make its next state known, or with the walk that spent the budget
abbrev pub removal_text : Removed → List ℕ
removal_text (Free dff sets) = decisions_text (codes "free ") dff sets
removal_text (Spent dff tokens) = walk_text (codes "spent ") dff tokens

-- flip-flop j with its walk, where it is held to the end
abbrev pub held_text : ℕ → Option (List Token) → List ℕ
held_text j None = []
held_text j (Some tokens) = walk_text (codes "held ") j tokens

-- output o, with its walk or its decisions
abbrev pub searched_text : ℕ → Out3 → List ℕ
searched_text o (Mute tokens) = walk_text (codes "mute ") o tokens
searched_text o (Seen sets) = decisions_text (codes "seen ") o sets
searched_text o (Open tokens) = walk_text (codes "open ") o tokens

-- what stands for an output that the circuit doesn't have
abbrev pub no_output : Out3
no_output = Open []

-- the first flip-flops, by their walks
abbrev pub held_texts : List (Option (List Token)) → ℕ → List ℕ
held_texts walks count = flat_map (λ j. held_text j (get_or walks j None)) (range_with_len 0 count)

-- the first outputs
abbrev pub searched_texts : List Out3 → ℕ → List ℕ
searched_texts outs count = flat_map (λ o. searched_text o (get_or outs o no_output)) (range_with_len 0 count)

-- ---- faults

-- whether a representative is hidden
abbrev pub hidden_pieces : Bool → List Piece
hidden_pieces true = word (codes "hidden") ∷ []
hidden_pieces false = word (codes "possible") ∷ []

-- a representative, and whether it is hidden; another fault has the line that it has in a report
abbrev pub hidden_line : Netlist → List ℕ → ℕ → Bool → List ℕ
hidden_line c representatives i hidden =
    if is_representative representatives i then pieces_text (line_front c i ++ hidden_pieces hidden)
    else fault_line c representatives i Undetected

-- the first faults
abbrev pub hidden_texts : Netlist → List ℕ → List Bool → ℕ → List ℕ
hidden_texts c representatives hidden count =
    flat_map (λ i. with_lf (hidden_line c representatives i (get_or hidden i false))) (range_with_len 0 count)

-- ---- the whole

-- how many flip-flops, outputs, faults and classes there are, and the budget
abbrev pub uninit_head : ℕ → ℕ → ℕ → ℕ → ℕ → List ℕ
uninit_head dffs outputs faults classes budget =
    pieces_text (word (codes "uninit flip-flops ") ∷ number dffs ∷ word (codes " outputs ") ∷ number outputs
    ∷ word (codes " faults ") ∷ number faults ∷ word (codes " classes ") ∷ number classes
    ∷ word (codes " budget ") ∷ number budget ∷ [])

-- the text without its last line
abbrev pub uninit_body : Netlist → List ℕ → ℕ → UninitState → List ℕ
uninit_body c representatives budget r =
    with_lf (uninit_head (length c.dffs) (length c.outputs) (length (faults_of c)) (class_count representatives) budget)
    ++ flat_map removal_text r.removed ++ held_texts r.walks (length c.dffs)
    ++ searched_texts r.outs (length c.outputs)
    ++ hidden_texts c representatives r.hidden (length (faults_of c))

-- so many classes, hidden representatives, and flip-flops that are held to the end
abbrev pub total_counts : ℕ → ℕ → ℕ → List ℕ
total_counts classes hidden held =
    pieces_text (word (codes "total ") ∷ number classes ∷ word (codes " hidden ") ∷ number hidden
    ∷ word (codes " held ") ∷ number held ∷ [])

-- the last line
abbrev pub uninit_total : Netlist → List ℕ → UninitState → List ℕ
uninit_total c representatives r =
    total_counts (class_count representatives)
    (count_by (λ i. get_or r.hidden i false) (own_representatives representatives))
    (length c.dffs - length r.removed)

-- the whole text
abbrev pub uninit_text : Netlist → List ℕ → ℕ → UninitState → List ℕ
uninit_text c representatives budget r =
    uninit_body c representatives budget r ++ with_lf (uninit_total c representatives r)
