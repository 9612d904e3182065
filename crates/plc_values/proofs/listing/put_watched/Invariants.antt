use Rattle.std.proofs.Common.{◌≡◌}
use Rattle.plc_figures.proofs.Numbered.{texts_before}
use Rattle.plc_figures.specs.Texts.{IsAdded}
use Rattle.plc_values.specs.Values.{watched_json}
use Rattle.plc_values.proofs.listing.put_watched.Given as goal

abbrev pub invariant-loop-number : goal.invariant-loop-number
invariant-loop-number l = record {
  text : IsAdded l.initial.out.items (texts_before (watched_json l.initial.look) l.names l.number) l.out.items;
  same : l.look ≡ l.initial.look;
}
