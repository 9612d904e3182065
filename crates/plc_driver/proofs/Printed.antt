-- What is printed where nothing was noted.
use Rattle.std.proofs.Common.{[], refl, sym, append-nil}
use Rattle.io_model.specs.declared.counted.CountedWrite.{Ghosts as CountedWriter}
use Rattle.plc_status.specs.declared.printer.Printer.{Printer}
use Rattle.plc_status.specs.Journal.{printed, Prints}

-- nothing was printed
pub nothing : {W : Type 0} (w : CountedWriter W) (p : Printer) (a : W) → Prints w p p a a
nothing w p a = record {
  of_driver = [];
  of_console = [];
  of_page = [];
  notices = [];
  driver = record { same = ((refl, refl, refl, refl), refl); taken = sym (append-nil (printed p.driver)) };
  console = record { same = ((refl, refl, refl, refl), refl); taken = sym (append-nil (printed p.console)) };
  page = record { same = ((refl, refl, refl, refl), refl); taken = sym (append-nil (printed p.page)) };
  merged = ([], (refl, refl), (refl, refl));
  lines = refl;
}
