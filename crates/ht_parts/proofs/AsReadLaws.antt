-- Entries that back what is said do so as a reader gives them, and are then still the entries of the text.
use Rattle.std.proofs.Common.{◌≡◌, ◌∙◌, ◌+◌, ◌-◌, ℕ, List, [], ◌∷◌, Option, Some, None, map, refl, ap, arith}
use Rattle.std.specs.List.{All}
use Rattle.std.specs.Option.{option_map}
use Rattle.std.proofs.lemmas.List.{get_or-map, length-map}
use Rattle.std.proofs.lemmas.List.Elements.{All-cons, All-head, All-nil, All-tail}
use Rattle.ht_tern.specs.declared.tern.Tern.{Tern}
use Rattle.ht_net.specs.declared.fault.Fault.{Fault}
use Rattle.ht_net.specs.Circuit.Netlist.{Netlist}
use Rattle.ht_faults.specs.Classes.{fault_at}
use Rattle.ht_tree.specs.declared.aim.Aim.{Aim}
use Rattle.ht_tree.specs.declared.aim.Aim.TheVariants as aims
use Rattle.ht_tree.specs.declared.entry.Entry.{Entry}
use Rattle.ht_tree.specs.declared.entry.Entry.TheVariants as entries
use Rattle.ht_tree.specs.declared.told.Told.{Told}
use Rattle.ht_tree.specs.Record.AbortRecords.{IsFirstAim}
use Rattle.ht_tree.specs.Record.AimedAttempts.{IsAim}
use Rattle.ht_tree.specs.Record.Entries.{AllowsEntry, Passes, kind_of}
use Rattle.ht_texts.specs.declared.said.Said.{Said}
use Rattle.ht_texts.specs.declared.said.Said.TheVariants.{Detected, Untestable, Undetectable, Aborted, Undetected}
use Rattle.ht_texts.specs.Verdicts.{said_at}
use Rattle.ht_entries.specs.declared.numbered.Numbered.{Numbered}
use Rattle.ht_entries.specs.EntryTexts.{IsProofText, aim_as_read, as_read, entry_as_read}
use Rattle.ht_entries.proofs.ReadLaws.{entries_read_back}
use Rattle.ht_valid.specs.ValidFiles.{Backs, Content, HasEntry, IsBacking, said_by_kind}

aim_passes : (c : Netlist) (fault : Fault) (budget : ℕ) (told : Told) (aim : Aim) → IsAim c fault budget told aim
    → IsAim c fault budget told (aim_as_read aim)
aim_passes c fault budget told (aims.ForwardClosed tokens) is = is
aim_passes c fault budget told (aims.ForwardOpen tokens) is = is
aim_passes c fault budget told (aims.BackClosed tokens) is = is
aim_passes c fault budget told (aims.BackOpen tokens) is = is
aim_passes c fault budget told (aims.Attempt back ahead) is = is

first_aim_passes : (c : Netlist) (fault : Fault) (budget : ℕ) (chain : List Told) (aim : Option Aim)
    → IsFirstAim c fault budget chain aim → IsFirstAim c fault budget chain (option_map aim_as_read aim)
first_aim_passes c fault budget [] None is = tt
first_aim_passes c fault budget [] (Some aim) is = absurd is
first_aim_passes c fault budget (told ∷ chain) None is = absurd is
first_aim_passes c fault budget (told ∷ chain) (Some aim) is = aim_passes c fault budget told aim is

-- an entry as a reader gives it is of the same kind
pub kind_as_read : (e : Entry) → kind_of (entry_as_read e) ≡ kind_of e
kind_as_read (entries.Untestable z tokens) = refl
kind_as_read (entries.UntestableFrom state clauses z tokens) = refl
kind_as_read (entries.UndetectableBySets rows) = refl
kind_as_read (entries.UndetectableByCubes cubes steps) = refl
kind_as_read (entries.Aborted told walk aim sweep) = refl

module _ (c : Netlist) (start : List Tern) where
  passes_as_read : (fault : Fault) (budget : ℕ) (e : Entry) → Passes c start fault budget e
      → Passes c start fault budget (entry_as_read e)
  passes_as_read fault budget (entries.Untestable z tokens) passes = passes
  passes_as_read fault budget (entries.UntestableFrom state clauses z tokens) passes = passes
  passes_as_read fault budget (entries.UndetectableBySets rows) passes = passes
  passes_as_read fault budget (entries.UndetectableByCubes cubes steps) passes = passes
  passes_as_read fault budget (entries.Aborted told walk aim sweep) passes = record {
    chain = passes.chain;
    walk = passes.walk;
    aim = first_aim_passes c fault budget told aim passes.aim;
    sweep = passes.sweep;
  }

  allowed_as_read : (e : Entry) → AllowsEntry start e → AllowsEntry start (entry_as_read e)
  allowed_as_read (entries.Untestable z tokens) allowed = tt
  allowed_as_read (entries.UntestableFrom state clauses z tokens) allowed = allowed
  allowed_as_read (entries.UndetectableBySets rows) allowed = tt
  allowed_as_read (entries.UndetectableByCubes cubes steps) allowed = tt
  allowed_as_read (entries.Aborted told walk aim sweep) allowed = tt

  said_as_read : (budget i : ℕ) (e : Entry) (said : Said)
      → (said_by_kind (kind_of e) ≡ said) × Passes c start (fault_at c i) budget e × AllowsEntry start e
      → (said_by_kind (kind_of (entry_as_read e)) ≡ said) × Passes c start (fault_at c i) budget (entry_as_read e)
      × AllowsEntry start (entry_as_read e)
  said_as_read budget i e said backs = (
    ap said_by_kind (kind_as_read e) ∙ backs.0,
    passes_as_read (fault_at c i) budget e backs.1,
    allowed_as_read e backs.2,
  )

  backs_as_read : (budget i : ℕ) (e : Entry) (said : Said) → Backs c start budget i e said
      → Backs c start budget i (entry_as_read e) said
  backs_as_read budget i e (Detected place) backs = tt
  backs_as_read budget i e Untestable backs = said_as_read budget i e Untestable backs
  backs_as_read budget i e Undetectable backs = said_as_read budget i e Undetectable backs
  backs_as_read budget i e Aborted backs = said_as_read budget i e Aborted backs
  backs_as_read budget i e Undetected backs = said_as_read budget i e Undetected backs

backing_as_read : (c : Netlist) (representatives : List ℕ) (content : Content) (e : Numbered)
    → IsBacking c representatives content e → IsBacking c representatives content (as_read e)
backing_as_read c representatives content e is = record {
  own = is.own;
  counted = is.counted;
  backs = backs_as_read c content.start content.budget (e.number - 1) e.entry
      (said_at content.saids (e.number - 1)) is.backs;
}

-- entries back what is said as a reader gives them
pub all_back_as_read : (c : Netlist) (representatives : List ℕ) (content : Content) (all : List Numbered)
    → All (IsBacking c representatives content) all → All (IsBacking c representatives content) (map as_read all)
all_back_as_read c representatives content [] are = All-nil (IsBacking c representatives content)
all_back_as_read c representatives content (e ∷ all) are =
    All-cons (IsBacking c representatives content) (as_read e) (map as_read all)
    (backing_as_read c representatives content e (All-head (IsBacking c representatives content) e all are))
    (all_back_as_read c representatives content all (All-tail (IsBacking c representatives content) e all are))

-- an entry is there as a reader gives it
pub has_as_read : (all : List Numbered) (i : ℕ) → HasEntry all i → HasEntry (map as_read all) i
has_as_read all i has =
    let one : Numbered = record { number = i + 1; entry = has.entry } in
    let among = has.among in record {
      entry = entry_as_read has.entry;
      among = (
        among.0,
        omega (arith, among.1, length-map all as_read),
        get_or-map as_read all among.0 one (as_read one) among.1 ∙ ap as_read among.2,
      );
    }

-- a text is the proofs of its entries as a reader gives them
pub text_as_read : (entries : List Numbered) (text : List ℕ) → IsProofText entries text
    → IsProofText (map as_read entries) text
text_as_read entries text is =
    let read = entries_read_back is.format entries is.are in record {
      format = is.format;
      are = read.readable;
      lines = is.lines ∙ read.lines_are;
      short = is.short;
    }
