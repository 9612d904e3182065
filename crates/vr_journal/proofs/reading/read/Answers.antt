use Rattle.std.proofs.Common.{◌≡◌, ℕ, ◌+◌, List, [], ◌∷◌, ◌++◌, drop, length, map, refl, sym, ap, ◌∙◌, subst, arith, length-drop}
use Rattle.std.proofs.lemmas.List.{take_rest}
use Rattle.vr_journal.specs.declared.record.Record.{Record}
use Rattle.vr_journal.specs.Records.{NoneStands, Stand, StandsFirst, entry, first_sum, sum_behind, sum_behind_all}
use Rattle.vr_journal.proofs.Fronts.{found_entry}
use Rattle.vr_journal.proofs.Loops.{copied, read_more, sum_read_more}
use Rattle.vr_journal.proofs.reading.read.Goals as goal

pub records-preserved : goal.records-preserved
records-preserved c =
    let bytes = c.args.bytes.now in
    let rs = c.records.found.records.items in
    let at = c.records.found.length in
    let sum = c.records.found.sum in
    let kind = c.in-Some.first.kind in
    let end = c.in-Some.first.end in
    let e = found_entry (drop at bytes) kind end in
    let r : Record = record { kind = kind; bytes = c.in_ok-from_slice.field-0 } in
    let stands : StandsFirst sum (drop at bytes) e (drop end (drop at bytes)) =
    subst (λ (xs : List ℕ). StandsFirst sum xs (found_entry xs kind end) (drop end xs)) (take_rest bytes at) c.in-Some.ensures.found in
    let behind : c.in-Some.first.sum ≡ sum_behind sum e =
    subst (λ (xs : List ℕ). c.in-Some.first.sum ≡ sum_behind sum (found_entry xs kind end)) (take_rest bytes at) c.in-Some.ensures.sum in
    let pushed : c.push.new.self.items ≡ rs ++ r ∷ [] = c.in_ok-push.ensures.items in
    let same : entry r ≡ e = copied bytes at end kind r refl c.in_ok-from_slice.ensures.items in
    record {
      within = omega (arith, c.records.invariant.within, c.in-Some.ensures.within.1, length-drop at bytes, ap length (take_rest bytes at));
      stand = subst (λ (xs : List Record). Stand first_sum bytes (map entry xs) (drop (at + end) bytes)) (sym pushed) (read_more bytes rs r at end sum e c.records.invariant.stand c.records.invariant.sum stands same);
      sum = sum_read_more rs r sum c.in-Some.first.sum e c.records.invariant.sum behind same ∙ ap (λ (xs : List Record). sum_behind_all first_sum (map entry xs)) (sym pushed);
    }

pub returns-clause-read : goal.returns-clause-read
returns-clause-read c =
    let bytes = c.args.bytes.now in
    let at = c.records.found.length in
    let sum = c.records.found.sum in
    let none : NoneStands sum (drop at bytes) = subst (λ (xs : List ℕ). NoneStands sum xs) (take_rest bytes at) c.in_default.ensures.none in
    record {
      stand = c.records.invariant.stand;
      ends = subst (λ (s : ℕ). NoneStands s (drop at bytes)) c.records.invariant.sum none;
    }
