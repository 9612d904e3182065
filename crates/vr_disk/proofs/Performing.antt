-- A writing that is done.
use Rattle.std.proofs.Common.{◌≡◌, ℕ, ◌+◌, Bool, true, List, [], ◌∷◌, ◌++◌, length, take, drop, replicate, Option, None, Some, Result, Ok, Err, refl, sym, ap, ap₂, ◌∙◌, subst, append_assoc}
use Rattle.std.proofs.Math.Seq.{take-append_seam}
use Rattle.std.specs.Prelude.{OnOk, is_ok}
use Rattle.vr_journal.specs.declared.choosing.File.{File}
use Rattle.vr_journal.specs.Records.{Entry, first_sum, spelt, sum_behind_all}
use Rattle.vr_ports.specs.Parties.{Grows}
use Rattle.vr_disk.specs.declared.disk.DiskFault.{DiskFault}
use Rattle.vr_disk.specs.declared.writing.Writing.{Writing}
use Rattle.vr_disk.specs.Disks.{DiskDeed, Wrote, Flushed, written_over, BeginsWith, Writes, WritesBehind}
use Rattle.vr_disk.proofs.Spellings.{spelt_append}

grows_twice : {X : Type 0} (before between after : Option (List X)) (x y : X) → Grows before between (x ∷ []) → Grows between after (y ∷ []) → Grows before after (x ∷ y ∷ [])
grows_twice {X} None between after x y one two = subst (λ (b : Option (List X)). Grows b after (y ∷ [])) one two
grows_twice {X} (Some xs) between after x y one two =
    let then : after ≡ Some ((xs ++ x ∷ []) ++ y ∷ []) = subst (λ (b : Option (List X)). Grows b after (y ∷ [])) one two in
    then ∙ ap (λ (zs : List X). Some zs) (append_assoc xs (x ∷ []) (y ∷ []))

pub performed : (result : Result (Unit {0}) DiskFault) (before between after : Option (List DiskDeed)) (wrote : DiskDeed) (file : File) → Grows before between (wrote ∷ []) → Grows between after (Flushed file (is_ok result) ∷ [])
    → OnOk result (Grows before after (wrote ∷ Flushed file true ∷ []))
performed (Ok done) before between after wrote file one two = grows_twice before between after wrote (Flushed file true) one two
performed (Err why) before between after wrote file one two = tt

pub behind : WritesBehind
behind w before es bytes writes begins =
    let front : List ℕ = spelt first_sum before in
    let new : List ℕ = w.bytes.items in
    let rest : List ℕ = drop (w.at + length new) bytes in
    let zeros : List ℕ = replicate w.at 0 in
    let kept : take w.at (bytes ++ zeros) ≡ front = ap₂ (λ (n : ℕ) (xs : List ℕ). take n (xs ++ zeros)) writes.at begins.is ∙ ap (take (length front)) (append_assoc front begins.rest zeros) ∙ take-append_seam front (begins.rest ++ zeros) in
    record {
      rest = rest;
      is = ap (λ (xs : List ℕ). xs ++ (new ++ rest)) kept ∙ sym (append_assoc front new rest)
          ∙ ap (λ (xs : List ℕ). xs ++ rest) (ap (λ (xs : List ℕ). front ++ xs) writes.bytes ∙ sym (spelt_append first_sum before es));
    }
