-- What is justified backs what is said of each fault that needs an entry.
use Rattle.std.proofs.Common.{◌≡◌, ◌∙◌, ◌+◌, ◌-◌, ℕ, List, get_or, length, ap, arith, subst}
use Rattle.std.specs.Prelude.{◌<◌}
use Rattle.std.specs.List.{Contains}
use Rattle.std.proofs.lemmas.Bool.{eq-eqb}
use Rattle.std.proofs.lemmas.List.Elements.{All-contains}
use Rattle.ht_tern.specs.declared.tern.Tern.{Tern}
use Rattle.ht_net.specs.Circuit.Netlist.{Netlist}
use Rattle.ht_net.specs.Detect.Detection.{IsStart}
use Rattle.ht_faults.specs.Sites.{faults_of}
use Rattle.ht_faults.specs.Classes.{AreClasses}
use Rattle.ht_faults.proofs.ClassLaws.{own_representative}
use Rattle.ht_tree.specs.declared.entry.Entry.{Entry}
use Rattle.ht_texts.specs.declared.said.Said.{Said}
use Rattle.ht_texts.specs.Verdicts.{said_at}
use Rattle.ht_valid.specs.ValidFiles.{AreValid, Backs, Content, IsBacking, IsJustified, IsOwn, NeedsEntry}

-- An entry of fault i stands among the entries, and backs what is said.
pub record IsBacked (c : Netlist) (content : Content) (i : ℕ) (said : Said) : Type 0 where
  pub entry : Entry
  pub among : Contains content.entries (record { number = i + 1; entry = entry })
  pub backs : Backs c content.start content.budget i entry said

-- so it is where what is said needs an entry
abbrev pub IsBackedIfNeeded : Netlist → Content → ℕ → Said → Type 0
IsBackedIfNeeded c content i said = NeedsEntry said → IsBacked c content i said

-- the start of valid files has a value for each latch
pub valid_latches : (c : Netlist) (representatives : List ℕ) (start : List Tern) (tests report proofs : List ℕ)
    (content : Content) → IsStart c start → AreValid c representatives start tests report proofs content
    → IsStart c content.start
valid_latches c representatives start tests report proofs content latches valid =
    ap (λ (s : List Tern). length s) valid.stated ∙ latches

-- in what is justified, an entry backs what is said of each representative that needs one
pub justified_backs : (c : Netlist) (representatives : List ℕ) (content : Content) (i : ℕ)
    → IsJustified c representatives content → IsOwn c representatives i
    → IsBackedIfNeeded c content i (said_at content.saids i)
justified_backs c representatives content i is own needs =
    let has = is.complete i own needs in
    let backing = All-contains (IsBacking c representatives content) content.entries
    (record { number = i + 1; entry = has.entry }) is.backed has.among in
    let back : i + 1 - 1 ≡ i = omega arith in
    record {
      entry = has.entry;
      among = has.among;
      backs = subst (λ (n : ℕ). Backs c content.start content.budget n has.entry (said_at content.saids n)) back
          backing.backs;
    }

-- the representative of a listed fault is listed, and represents itself
pub representative_is_own : (c : Netlist) (representatives : List ℕ) (i : ℕ) → AreClasses c representatives
    → i < length (faults_of c) → IsOwn c representatives (get_or representatives i 0)
representative_is_own c representatives i classes inside = record {
  listed = (classes.exact i inside).listed;
  own = eq-eqb (get_or representatives (get_or representatives i 0) 0) (get_or representatives i 0)
      (own_representative c representatives i classes inside);
}
