use Rattle.std.proofs.Common.{rules, ◌≡◌, List, ◌∷◌, ℕ, ◌-◌, Option, length, take, drop, map, sym, ap, ap₂, ◌∙◌}
use Rattle.std.specs.Prelude.{unwrap_or}
use Rattle.std.proofs.lemmas.List.{take_rest}
use Rattle.vr_journal.specs.declared.record.Kind.{Kind}
use Rattle.vr_journal.specs.declared.record.Kind.TheVariants.{Base}
use Rattle.vr_journal.specs.declared.record.Record.{Record}
use Rattle.vr_journal.specs.Records.{Entry, entry}
use Rattle.vr_journal.specs.Journals.{base}
use Rattle.vr_journal.proofs.WholeFiles.{entries_parted, three_of}
use Rattle.vr_journal.proofs.kept.kept_in.Goals as goal

pub returns-in_default-generation_in-clause-kept : goal.returns-in_default-generation_in-clause-kept
returns-in_default-generation_in-clause-kept c = λ generation start bytes later w.
    let its = three_of c.args.owner.now c.args.found.now.records.items c.as_slice.result.now c.head-item.result c.start-item.result c.base-item.result c.as_slice.ensures.value
    c.in-len3-up.len_at_least c.head-item.is c.start-item.is c.base-item.is generation start bytes later w in
    c.in_default-generation_in.ensures.none generation its.headed

the_base : (b : Entry) (bytes : List ℕ) → b.kind ≡ Base → bytes ≡ b.bytes → b ≡ base bytes
the_base b bytes kind is = ap₂ (λ (j : Kind) (xs : List ℕ). the_entry j xs) kind (sym is)
  where
    the_entry : Kind → List ℕ → Entry
    the_entry j xs = record { kind = j; bytes = xs }

pub returns-clause-kept : goal.returns-clause-kept
returns-clause-kept c =
    let h = c.head-item.result in
    let s = c.start-item.result in
    let b = c.base-item.result in
    let kept = c.in_ok-from_slice.field-0.items in
    let kind : b.kind ≡ Base = search rules in
    let rs = c.as_slice.result.now in
    let behind = take (length rs - 3) (drop 3 rs) in
    let based = the_base (entry b) kept kind (c.in_ok-from_slice.ensures.items ∙ c.as_slice-2.ensures.value) in
    record {
      first_start = c.in-Some-number_in.first_start;
      later = map entry behind;
      are_whole = record {
        first = entry h;
        second = entry s;
        headed = c.in-Some.ensures.found;
        started = sym c.number_in.ensures ∙ c.in-Some-number_in.is;
        parts = entries_parted c.args.found.now.records.items c.as_slice.result.now h s b c.as_slice.ensures.value c.in-len3-up.len_at_least c.head-item.is c.start-item.is c.base-item.is
            ∙ ap₂ (λ (x : Entry) (xs : List Record). entry h ∷ entry s ∷ x ∷ map entry xs) based (sym (take_rest rs 3));
      };
      start = c.unwrap_or.ensures ∙ ap (λ (o : Option ℕ). unwrap_or o c.in-Some-number_in.first_start) c.last_number.ensures;
      time = c.last_number-2.ensures;
      taken = c.in_ok-inputs_in.ensures;
    }
