-- The listing of a program that has an image is read as the same program.
use Rattle.std.proofs.Common.{◌≤◌, length, refl, sym, subst}
use Rattle.il_model.specs.declared.dialect.Dialect.{Dialect}
use Rattle.il_model.specs.Program.{Program}
use Rattle.il_model.specs.Image.{version_of}
use Rattle.il_model.specs.Fits.{IsImage}
use Rattle.il_reader.specs.Texts.{SourceText, text_limit}
use Rattle.il_lister.specs.Listing.{listing}
use Rattle.il_declarations.proofs.FaultLaws.{found}
use Rattle.laws_listing.specs.ReadBack.{ReadsBack}
use Rattle.laws_listing.proofs.Sayable.{dialect_for, sayable}
use Rattle.laws_listing.proofs.Written.{written}
use Rattle.laws_listing.proofs.Settles.{typed_settles}
use Rattle.laws_listing.proofs.Declares.{resolves}
use Rattle.laws_listing.proofs.Says.{listing_dialect, listing_says}
use Rattle.laws_listing.proofs.Short.{listing_short}

abbrev source : Program → SourceText
source Q = record { text = listing Q; says = written (dialect_for (version_of Q)) Q }

pub reads_back : (Q : Program) → IsImage Q → ReadsBack Q
reads_back Q is =
    let resolved = resolves (dialect_for (version_of Q)) Q (listing Q) (listing_dialect Q) (sayable Q is) in
    let whole = found (source Q) Q resolved in
    record {
      source = source Q;
      read = (refl, record { short = subst (λ (d : Dialect). length (listing Q) ≤ text_limit d) (sym (listing_dialect Q)) (listing_short Q is); said = listing_says Q is });
      declared = whole.0;
      faultless = whole.1;
      settled = typed_settles Q is.typed;
    }
