use Rattle.std.proofs.Common.{◌≡◌, ◌∙◌, ◌∷◌, [], List, get_or, refl}
use Rattle.ht_tern.specs.Gate.{operation_of}
use Rattle.ht_tern.specs.declared.gate.Kind.{Kind}
use Rattle.ht_tern.specs.declared.gate.Kind.TheVariants.{And, Nand, Or, Nor, Xor, Xnor, Not, Buf}
use Rattle.ht_lanes.specs.Lanes.{Lanes, lane_operations}
use Rattle.ht_pairs.specs.Places.{place_of}
use Rattle.ht_group.proofs.evaluate.combined.Goals as goal

-- what stands at a kind's place
module _ (v w d : Lanes) where
  abbrev rows : List Lanes
  rows = lane_operations.conjunction v w ∷ lane_operations.disjunction v w ∷ lane_operations.parity v w ∷ v ∷ []

  row_of : (kind : Kind) → get_or rows (place_of kind) d ≡ operation_of lane_operations kind v w
  row_of kind = elim kind as (λ k. get_or rows (place_of k) d ≡ operation_of lane_operations k v w) [
    | And ↦ refl
    | Nand ↦ refl
    | Or ↦ refl
    | Nor ↦ refl
    | Xor ↦ refl
    | Xnor ↦ refl
    | Not ↦ refl
    | Buf ↦ refl
  ]

pub returns : goal.returns
returns c =
    (λ i. get_or (c.conjunction.ensures i ∷ c.disjunction.ensures i ∷ c.parity.ensures i ∷ c.args.v ∷ [])
    (c.operation_row.ensures i) c.index-rows-operation_row.result)
    ∙ row_of c.args.v c.args.w c.index-rows-operation_row.result c.args.kind
