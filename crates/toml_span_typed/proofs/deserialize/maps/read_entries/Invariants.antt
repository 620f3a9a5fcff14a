use Rattle.toml_span_lex.proofs.Common.{◌≡◌, IsTrue, ◌++◌, map}
use Rattle.toml_span_tree.specs.Error.{content_of}
use Rattle.toml_span_tree.specs.Value.{all_members_whole, members_view}
use Rattle.toml_span_typed.specs.Maps.{EntriesRead, names_of, shown_pair, values_of}
use Rattle.toml_span_typed.proofs.deserialize.maps.read_entries.Given as goal

abbrev pub invariant-loop-key : goal.invariant-loop-key
invariant-loop-key g l = record {
  rest : l.yielded ++ l.key-iterator ≡ l.fn.table.entries;
  whole : IsTrue (all_members_whole (members_view l.key-iterator));
  done : EntriesRead g.T.Deserialize.reads (names_of (members_view l.yielded)) (values_of (members_view l.yielded)) (map shown_pair l.read.entries) (map content_of l.faults.items);
}
