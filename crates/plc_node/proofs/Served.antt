-- What is told of a controller that was served, by what was put into its journal and printed of it.
use Rattle.std.proofs.Common.{◌≡◌, ℕ, List, [], ◌∷◌, ◌++◌, subst, sym, ◌∙◌, Option, Some, Result, Ok, IfOk}
use Rattle.io_model.specs.declared.counted.CountedWrite.{Ghosts as CountedWriter}
use Rattle.rtrb.specs.Ring.{SameConsumer}
use Rattle.plc_driver.specs.declared.driving.DriverCounts.{DriverCounts}
use Rattle.plc_host.specs.declared.failed.Failed.{Failed}
use Rattle.plc_status.specs.declared.feed.Feed.{Feed}
use Rattle.plc_status.specs.declared.journal.Journal.{Journal}
use Rattle.plc_status.specs.declared.notice.Notice.{Notice}
use Rattle.plc_status.specs.declared.printer.Printer.{Printer}
use Rattle.plc_status.specs.Notices.{IsPortTold, IsServingTold, WentOutInOrder}
use Rattle.plc_status.specs.Journal.{printed, IsJournalOf, IsPrintedOut, IsSameJournal, Prints, loss}

joined : {W : Type 0} (w : CountedWriter W) (early late : List Notice) (a b c : W) → WentOutInOrder w early a b → WentOutInOrder w late b c → WentOutInOrder w (early ++ late) a c
joined w [] late a b c before after = subst (λ it. WentOutInOrder w late it c) before after
joined w (notice ∷ early) late a b c before after = (before.0, before.1, joined w early late before.0 b c before.2 after)

-- what is read of a journal stays that, whatever is put into it and printed
pub pair : (j k m : Journal) (p q : Feed) → IsJournalOf j p → IsSameJournal j k → IsSameJournal k m → SameConsumer p.consumer q.consumer → IsJournalOf m q
pair j k m p q is first then_ printed_ = (
  printed_.0.0 ∙ is.0 ∙ sym first.0.0 ∙ sym then_.0.0,
  printed_.0.1 ∙ is.1 ∙ sym first.0.1 ∙ sym then_.0.1,
  printed_.0.2 ∙ is.2 ∙ sym first.0.2 ∙ sym then_.0.2,
  printed_.0.3 ∙ is.3 ∙ sym first.0.3 ∙ sym then_.0.3,
)

module _ {W : Type 0} (w : CountedWriter W) where
  pub served : (m : Journal) (p q r : Printer) (a b c d : W) → IsPortTold w a b → Prints w p q b c → IsPrintedOut w m q r c d → IsServingTold w a d
  served m p q r a b c d port while_ out = record {
    opened = b;
    port = port;
    notices = record { told = while_.notices ++ (out.notices ++ loss m.lost); lines = joined w while_.notices _ b c d while_.lines out.lines };
  }

-- a driver that ended well made as many scans as were asked for
pub made : (asked : Option ℕ) (done : Result ℕ Failed) (counts : Result DriverCounts Failed) (k : DriverCounts) → counts ≡ Ok k → IfOk done (λ scans. asked ≡ Some scans) → IfOk counts (λ x. done ≡ Ok x.scans) → asked ≡ Some k.scans
made asked done counts k is ran ended =
    let whole : done ≡ Ok k.scans = subst (λ (r : Result DriverCounts Failed). IfOk r (λ x. done ≡ Ok x.scans)) is ended in
    subst (λ (r : Result ℕ Failed). IfOk r (λ scans. asked ≡ Some scans)) whole ran
