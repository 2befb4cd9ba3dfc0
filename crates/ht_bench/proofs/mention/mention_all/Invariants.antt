use Rattle.std.proofs.Common.{◌≡◌, ◌++◌, map, drop, All}
use Rattle.ht_net.specs.Build.Draft.{IsDraft, IsName, draft_name}
use Rattle.ht_statement.specs.StatementOf.{texts_of}
use Rattle.ht_bench.specs.Different.{with_names}
use Rattle.ht_bench.proofs.mention.mention_all.Given as goal

abbrev pub invariant-loop-name : goal.invariant-loop-name
invariant-loop-name l = record {
  is : l.builder ≡ record l.initial.builder { names = l.builder.names };
  is_draft : IsDraft l.builder;
  rest : with_names l.builder.names (texts_of (drop l.name-index l.names))
      ≡ with_names l.initial.builder.names (texts_of l.names);
  known : All (IsName l.builder) l.ids;
  numbers : map (draft_name l.builder) l.ids ++ texts_of (drop l.name-index l.names) ≡ texts_of l.names;
}
