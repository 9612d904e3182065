use Rattle.std.proofs.Common.{◌≡◌, ℕ, ◌+◌, List, ◌∷◌, Option, drop, map, sym, ap, ◌∙◌, arith}
use Rattle.std.specs.Option.{option_or}
use Rattle.std.proofs.lemmas.List.{drop_more}
use Rattle.vr_journal.specs.declared.record.Record.{Record}
use Rattle.vr_journal.specs.Records.{entry}
use Rattle.vr_journal.specs.Journals.{last_behind, number_in, numbers}
use Rattle.vr_journal.proofs.Loops.{number_next}
use Rattle.vr_journal.proofs.kept.last_number.Goals as goal

pub loop-record-preserved : goal.loop-record-preserved
loop-record-preserved c =
    let i = c.loop-record.record-index in
    let rs = c.args.records.now in
    let r = c.record-item.result in
    let kind = c.args.kind in
    let before = c.loop-record.last in
    let there : drop i rs ≡ r ∷ drop (i + 1) rs = drop_more rs i r (omega arith) ∙ ap (λ (x : Record). x ∷ drop (i + 1) rs) (sym c.record-item.is) in
    let next = number_next kind r (drop (i + 1) rs) before in
    let found : c.or-last.result ≡ option_or (number_in kind (entry r)) before = c.or-last.ensures ∙ ap (λ (o : Option ℕ). option_or o before) c.number_in.ensures in
    ap (λ (o : Option ℕ). last_behind o (numbers kind (map entry (drop (i + 1) rs)))) found ∙ sym next
    ∙ sym (ap (λ (xs : List Record). last_behind before (numbers kind (map entry xs))) there) ∙ c.loop-record.invariant
