-- What is put into a journal, and what of it is printed.
use Rattle.std.specs.Prelude.{◌≡◌, ◌⊎◌, ℕ, zero, suc, ◌+◌, ◌-◌, ◌^◌, ◌<◌, ◌≤◌, min, List, [], ◌∷◌, ◌++◌}
use Rattle.io_model.specs.declared.counted.CountedWrite.{Ghosts as CountedWriter}
use Rattle.rtrb.specs.Ring.{sent, received, known_free, IsPair, SameConsumer, SameProducer}
use Rattle.plc_status.specs.declared.feed.Feed.{Feed}
use Rattle.plc_status.specs.declared.journal.Journal.{Journal}
use Rattle.plc_status.specs.declared.journal.Journals.{Journals}
use Rattle.plc_status.specs.declared.notice.Notice.{Notice}
use Rattle.plc_status.specs.declared.notice.Notice.TheVariants as notices
use Rattle.plc_status.specs.declared.printer.Printer.{Printer}
use Rattle.plc_status.specs.Notices.{WentOutInOrder}

-- all that was put and found room, in order
abbrev pub noted : Journal → List Notice
noted journal = sent journal.producer

-- what of it was printed, in order
abbrev pub printed : Feed → List Notice
printed feed = received feed.consumer

-- what is printed there is put into the journal
abbrev pub IsJournalOf : Journal → Feed → Type 0
IsJournalOf journal feed = IsPair journal.producer feed.consumer

abbrev pub IsSameJournal : Journal → Journal → Type 0
IsSameJournal old new = SameProducer old.producer new.producer

-- what tells that so many were lost
abbrev pub loss : ℕ → List Notice
loss zero = []
loss (suc n) = notices.Lost (suc n) ∷ []

-- a notice stands behind all that were put, and before it how many had been lost; or there was no room, and it is
-- counted
pub record IsPut (notice : Notice) (old new : Journal) : Type 0 where
  pub same : IsSameJournal old new
  pub put : ((noted new ≡ noted old ++ (loss old.lost ++ notice ∷ [])) × (new.lost ≡ 0))
      ⊎ ((known_free old.producer < 2) × (noted new ≡ noted old) × (new.lost ≡ min (old.lost + 1) (2 ^ 64 - 1)))

-- notices were put, and nothing else was done
pub record AreNoted (old new : Journal) : Type 0 where
  pub same : IsSameJournal old new
  pub notices : List Notice
  pub put : noted new ≡ noted old ++ notices

-- these came out behind what had come out before, of the same journal
pub record Takes (old new : Feed) (notices : List Notice) : Type 0 where
  pub same : SameConsumer old.consumer new.consumer
  pub taken : printed new ≡ printed old ++ notices

-- the lines of notices were printed that had been put, in order, and nothing else was told
pub record PrintsOf {W : Type 0} (w : CountedWriter W) (old new : Feed) (before after : W) : Type 0 where
  pub notices : List Notice
  pub takes : Takes old new notices
  pub lines : WentOutInOrder w notices before after

-- all that was put was printed now, in order
pub record IsFeedPrinted {W : Type 0} (w : CountedWriter W) (journal : Journal) (feed : Feed) (before after : W)
    : Type 0 where
  pub notices : List Notice
  pub left : noted journal ≡ printed feed ++ notices
  pub lines : WentOutInOrder w notices before after

-- the third list has the elements of both others, and nothing else, each in its list's order
abbrev pub Merges : List Notice → List Notice → List Notice → Type 0
Merges xs ys [] = (xs ≡ []) × (ys ≡ [])
Merges xs ys (notice ∷ notices) = ((rest : List Notice) × (xs ≡ notice ∷ rest) × Merges rest ys notices)
    ⊎ ((rest : List Notice) × (ys ≡ notice ∷ rest) × Merges xs rest notices)

-- the last list has the elements of the other three, and nothing else, each in its list's order
abbrev pub MergesAll : List Notice → List Notice → List Notice → List Notice → Type 0
MergesAll xs ys zs notices = (others : List Notice) × Merges ys zs others × Merges xs others notices

-- the lines of notices were printed that had been put into the journals, those of each in order, and nothing else was
-- told
pub record Prints {W : Type 0} (w : CountedWriter W) (old new : Printer) (before after : W) : Type 0 where
  pub of_driver : List Notice
  pub of_console : List Notice
  pub of_page : List Notice
  pub notices : List Notice
  pub driver : Takes old.driver new.driver of_driver
  pub console : Takes old.console new.console of_console
  pub page : Takes old.page new.page of_page
  pub merged : MergesAll of_driver of_console of_page notices
  pub lines : WentOutInOrder w notices before after

-- all that was put into the driver's journal was printed now, in order, and what had been put into the others, and then
-- how many of the driver's had been lost, if any were
pub record IsPrintedOut {W : Type 0} (w : CountedWriter W) (journal : Journal) (old new : Printer) (before after : W)
    : Type 0 where
  pub of_driver : List Notice
  pub of_console : List Notice
  pub of_page : List Notice
  pub notices : List Notice
  pub left : noted journal ≡ printed old.driver ++ of_driver
  pub console : Takes old.console new.console of_console
  pub page : Takes old.page new.page of_page
  pub merged : MergesAll of_driver of_console of_page notices
  pub lines : WentOutInOrder w (notices ++ loss journal.lost) before after

-- a journal into which nothing was put yet, and what is read of it
pub record IsEmpty (journal : Journal) (feed : Feed) : Type 0 where
  pub pair : IsJournalOf journal feed
  pub noted : noted journal ≡ []
  pub printed : printed feed ≡ []
  pub none_lost : journal.lost ≡ 0

-- nothing was put yet
pub record IsNew (journals : Journals) : Type 0 where
  pub driver : IsEmpty journals.driver journals.printer.driver
  pub console : IsEmpty journals.console journals.printer.console
  pub page : IsEmpty journals.page journals.printer.page
