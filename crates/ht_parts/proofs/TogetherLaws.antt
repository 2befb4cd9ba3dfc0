-- Two parts of proofs justify together what each justifies.
use Rattle.std.proofs.Common.{◌≡◌, ◌+◌, ◌-◌, ◌<◌, ℕ, List, inl, inr, get_or, sym, subst, arith}
use Rattle.std.specs.List.{All, Contains}
use Rattle.std.proofs.lemmas.List.Elements.{All-contains, Contains-get_or}
use Rattle.ht_tern.specs.declared.tern.Tern.{Tern}
use Rattle.ht_net.specs.Circuit.Netlist.{Netlist}
use Rattle.ht_tree.specs.declared.entry.Entry.{Entry}
use Rattle.ht_tree.specs.declared.kind.EntryKind.{EntryKind}
use Rattle.ht_tree.specs.declared.kind.EntryKind.TheVariants as kinds
use Rattle.ht_tree.specs.Record.Entries.{kind_of}
use Rattle.ht_texts.specs.declared.said.Said.{Said}
use Rattle.ht_texts.specs.declared.said.Said.TheVariants.{Detected, Untestable, Undetectable, Aborted, Undetected}
use Rattle.ht_texts.specs.Verdicts.{said_at}
use Rattle.ht_entries.specs.declared.numbered.Numbered.{Numbered}
use Rattle.ht_valid.specs.ValidFiles.{AgreesWithTests, Backs, Content, HasEntry, IsBacking, IsJustified, IsOwn, NeedsEntry, said_by_kind}
use Rattle.ht_parts.specs.PutTogether.{IsPutTogether, said_together}

-- ---- what one part says beside the other

agree_together : (P : Said → Type 0) (a b : Said) → P a → P b → P (said_together a b)
agree_together P (Detected place) b of_a of_b = of_a
agree_together P Untestable b of_a of_b = of_a
agree_together P Undetectable b of_a of_b = of_a
agree_together P Aborted b of_a of_b = of_a
agree_together P Undetected b of_a of_b = of_b

-- no entry says that a fault is just undetected
says_more : (kind : EntryKind) → ¬ ◌≡◌ {A = Said} (said_by_kind kind) Undetected
says_more kinds.Untestable e = cc
says_more kinds.Undetectable e = cc
says_more kinds.Aborted e = cc

module _ (c : Netlist) (start : List Tern) (budget i : ℕ) (e : Entry) where
  -- an entry of the first part backs what both say
  first_backs : (a b : Said) → Backs c start budget i e a → Backs c start budget i e (said_together a b)
  first_backs (Detected place) b backs = tt
  first_backs Untestable b backs = backs
  first_backs Undetectable b backs = backs
  first_backs Aborted b backs = backs
  first_backs Undetected b backs = absurd (says_more (kind_of e) backs.0)

  -- so does one of the second, if the first has none of the fault
  second_backs : (a b : Said) → ¬ NeedsEntry a → Backs c start budget i e b
      → Backs c start budget i e (said_together a b)
  second_backs (Detected place) b none backs = tt
  second_backs Untestable b none backs = absurd (none tt)
  second_backs Undetectable b none backs = absurd (none tt)
  second_backs Aborted b none backs = absurd (none tt)
  second_backs Undetected b none backs = backs

-- what both say needs an entry of one of them
needed_in_one : (P : Type 0) (a b : Said) → (NeedsEntry a → P) → (NeedsEntry b → P)
    → NeedsEntry (said_together a b) → P
needed_in_one P (Detected place) b of_a of_b needs = of_a needs
needed_in_one P Untestable b of_a of_b needs = of_a needs
needed_in_one P Undetectable b of_a of_b needs = of_a needs
needed_in_one P Aborted b of_a of_b needs = of_a needs
needed_in_one P Undetected b of_a of_b needs = of_b needs

-- ---- the law

module _ (c : Netlist) (representatives : List ℕ) (whole first second : Content)
    (is : IsPutTogether representatives whole first second) (of_first : IsJustified c representatives first)
    (of_second : IsJustified c representatives second) where
  agrees : (i : ℕ) → IsOwn c representatives i
      → AgreesWithTests c whole.start whole.list i (said_at whole.saids i)
  agrees i own =
      subst (AgreesWithTests c whole.start whole.list i) (sym (is.saids i own.own))
      (agree_together (AgreesWithTests c whole.start whole.list i) (said_at first.saids i) (said_at second.saids i)
      (subst (λ l. AgreesWithTests c whole.start l i (said_at first.saids i)) is.lists.0
      (subst (λ s. AgreesWithTests c s first.list i (said_at first.saids i)) is.starts.0 (of_first.agrees i own)))
      (subst (λ l. AgreesWithTests c whole.start l i (said_at second.saids i)) is.lists.1
      (subst (λ s. AgreesWithTests c s second.list i (said_at second.saids i)) is.starts.1
      (of_second.agrees i own))))

  from_first : (e : Numbered) → IsBacking c representatives first e → IsBacking c representatives whole e
  from_first e backing =
      let i = e.number - 1 in record {
        own = backing.own;
        counted = backing.counted;
        backs = subst (Backs c whole.start whole.budget i e.entry) (sym (is.saids i backing.own.own))
            (first_backs c whole.start whole.budget i e.entry (said_at first.saids i) (said_at second.saids i)
            (subst (λ b. Backs c whole.start b i e.entry (said_at first.saids i)) is.budgets.0
            (subst (λ s. Backs c s first.budget i e.entry (said_at first.saids i)) is.starts.0 backing.backs)));
      }

  -- the entry has the number of its fault
  has_number : (e : Numbered) → 0 < e.number → Contains second.entries e → HasEntry second.entries (e.number - 1)
  has_number e counted among =
      let same : e.number ≡ e.number - 1 + 1 = omega (arith, counted) in record {
        entry = e.entry;
        among = subst (λ n. Contains second.entries (record { number = n; entry = e.entry })) same among;
      }

  from_second : (e : Numbered) → Contains second.entries e → IsBacking c representatives second e
      → IsBacking c representatives whole e
  from_second e among backing =
      let i = e.number - 1 in
      let none : ¬ NeedsEntry (said_at first.saids i) =
      λ needs. is.entries.apart i (of_first.complete i backing.own needs) (has_number e backing.counted among) in
      record {
        own = backing.own;
        counted = backing.counted;
        backs = subst (Backs c whole.start whole.budget i e.entry) (sym (is.saids i backing.own.own))
            (second_backs c whole.start whole.budget i e.entry (said_at first.saids i) (said_at second.saids i) none
            (subst (λ b. Backs c whole.start b i e.entry (said_at second.saids i)) is.budgets.1
            (subst (λ s. Backs c s second.budget i e.entry (said_at second.saids i)) is.starts.1 backing.backs)));
      }

  backed : All (IsBacking c representatives whole) whole.entries
  backed k d inside =
      let e = get_or whole.entries k d in
      elim (is.entries.either e (Contains-get_or whole.entries k d inside)) [
        | inl among ↦ from_first e
            (All-contains (IsBacking c representatives first) first.entries e of_first.backed among)
        | inr among ↦ from_second e among
            (All-contains (IsBacking c representatives second) second.entries e of_second.backed among)
      ]

  complete : (i : ℕ) → IsOwn c representatives i → NeedsEntry (said_at whole.saids i) → HasEntry whole.entries i
  complete i own needs =
      needed_in_one (HasEntry whole.entries i) (said_at first.saids i) (said_at second.saids i)
      (λ needs_first.
      let has = of_first.complete i own needs_first in record {
        entry = has.entry;
        among = is.entries.all_first (record { number = i + 1; entry = has.entry }) has.among;
      })
      (λ needs_second.
      let has = of_second.complete i own needs_second in record {
        entry = has.entry;
        among = is.entries.all_second (record { number = i + 1; entry = has.entry }) has.among;
      })
      (subst NeedsEntry (is.saids i own.own) needs)

  -- both justify what they say together
  pub justified_together : IsJustified c representatives whole
  justified_together = record { agrees = agrees; backed = backed; complete = complete }

-- what two parts of proofs justify they justify together
pub together_is_justified : (c : Netlist) (representatives : List ℕ) (whole first second : Content)
    → IsPutTogether representatives whole first second → IsJustified c representatives first
    → IsJustified c representatives second → IsJustified c representatives whole
together_is_justified = justified_together
