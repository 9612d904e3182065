-- Notices of several journals, printed one behind the other.
use Rattle.std.proofs.Common.{◌≡◌, List, [], ◌∷◌, ◌++◌, ◌⊎◌, inl, inr, refl, subst, sym, ap, ◌∙◌, append_assoc, append-nil}
use Rattle.io_model.specs.declared.counted.CountedWrite.{Ghosts as CountedWriter}
use Rattle.plc_status.specs.declared.feed.Feed.{Feed}
use Rattle.plc_status.specs.declared.journal.Journal.{Journal}
use Rattle.plc_status.specs.declared.notice.Notice.{Notice}
use Rattle.plc_status.specs.declared.printer.Printer.{Printer}
use Rattle.plc_status.specs.Journal.{IsFeedPrinted, IsPrintedOut, Merges, MergesAll, Prints, PrintsOf, Takes, loss}
use Rattle.plc_status.specs.Notices.{WentOutInOrder}
use Rattle.plc_status.proofs.Printing.{joined, taken_both, taken_none}

all_left : (xs : List Notice) → Merges xs [] xs
all_left [] = (refl, refl)
all_left (x ∷ xs) = inl (xs, refl, all_left xs)

all_right : (xs : List Notice) → Merges [] xs xs
all_right [] = (refl, refl)
all_right (x ∷ xs) = inr (xs, refl, all_right xs)

merged_both : (xs ys zs us vs ws : List Notice) → Merges xs ys zs → Merges us vs ws → Merges (xs ++ us) (ys ++ vs) (zs ++ ws)
merged_both xs ys [] us vs ws is more = subst (λ (it : List Notice). Merges (it ++ us) (ys ++ vs) ws) (sym is.0) (subst (λ (it : List Notice). Merges us (it ++ vs) ws) (sym is.1) more)
merged_both xs ys (z ∷ zs) us vs ws is more = elim is [
  | inl left ↦ inl (left.0 ++ us, ap (λ (it : List Notice). it ++ us) left.1, merged_both left.0 ys zs us vs ws left.2 more)
  | inr right ↦ inr (right.0 ++ vs, ap (λ (it : List Notice). it ++ vs) right.1, merged_both xs right.0 zs us vs ws right.2 more)
]

-- those of one journal, and then those of the other
beside : (xs ys : List Notice) → Merges xs ys (xs ++ ys)
beside xs ys = subst (λ (it : List Notice). Merges it ys (xs ++ ys)) (append-nil xs) (merged_both xs [] xs [] ys ys (all_left xs) (all_right ys))

-- those of three journals, one behind the other
all_beside : (xs ys zs : List Notice) → MergesAll xs ys zs (xs ++ (ys ++ zs))
all_beside xs ys zs = (ys ++ zs, beside ys zs, beside xs (ys ++ zs))

all_both : (xs ys zs ns us vs ws ms : List Notice) → MergesAll xs ys zs ns → MergesAll us vs ws ms → MergesAll (xs ++ us) (ys ++ vs) (zs ++ ws) (ns ++ ms)
all_both xs ys zs ns us vs ws ms early late = (
  early.0 ++ late.0,
  merged_both ys zs early.0 vs ws late.0 early.1 late.1,
  merged_both xs early.0 ns us late.0 ms early.2 late.2,
)

pub one_by_one : {W : Type 0} (w : CountedWriter W) (old new : Printer) (a b c d : W) → PrintsOf w old.driver new.driver a b → PrintsOf w old.console new.console b c → PrintsOf w old.page new.page c d → Prints w old new a d
one_by_one w old new a b c d h k l = record {
  of_driver = h.notices;
  of_console = k.notices;
  of_page = l.notices;
  notices = h.notices ++ (k.notices ++ l.notices);
  driver = h.takes;
  console = k.takes;
  page = l.takes;
  merged = all_beside h.notices k.notices l.notices;
  lines = joined w h.notices (k.notices ++ l.notices) a b d h.lines (joined w k.notices l.notices b c d k.lines l.lines);
}

pub nothing : {W : Type 0} (w : CountedWriter W) (a : Printer) (at : W) → Prints w a a at at
nothing w a at = record {
  of_driver = [];
  of_console = [];
  of_page = [];
  notices = [];
  driver = taken_none a.driver;
  console = taken_none a.console;
  page = taken_none a.page;
  merged = ([], (refl, refl), (refl, refl));
  lines = refl;
}

pub both : {W : Type 0} (w : CountedWriter W) (a b c : Printer) (x y z : W) → Prints w a b x y → Prints w b c y z → Prints w a c x z
both w a b c x y z h k = record {
  of_driver = h.of_driver ++ k.of_driver;
  of_console = h.of_console ++ k.of_console;
  of_page = h.of_page ++ k.of_page;
  notices = h.notices ++ k.notices;
  driver = taken_both a.driver b.driver c.driver h.of_driver k.of_driver h.driver k.driver;
  console = taken_both a.console b.console c.console h.of_console k.of_console h.console k.console;
  page = taken_both a.page b.page c.page h.of_page k.of_page h.page k.page;
  merged = all_both h.of_driver h.of_console h.of_page h.notices k.of_driver k.of_console k.of_page k.notices h.merged k.merged;
  lines = joined w h.notices k.notices x y z h.lines k.lines;
}

-- all of the driver's, then what there was of the others, and then how many were lost
pub all_out : {W : Type 0} (w : CountedWriter W) (journal after : Journal) (old new : Printer) (a b c d e : W) → IsFeedPrinted w journal old.driver a b → after.lost ≡ journal.lost → PrintsOf w old.console new.console b c → PrintsOf w old.page new.page c d → WentOutInOrder w (loss after.lost) d e → IsPrintedOut w journal old new a e
all_out w journal after old new a b c d e h same k l lost =
    let others = joined w k.notices l.notices b c d k.lines l.lines in
    let lines = joined w h.notices (k.notices ++ l.notices) a b d h.lines others in
    record {
      of_driver = h.notices;
      of_console = k.notices;
      of_page = l.notices;
      notices = h.notices ++ (k.notices ++ l.notices);
      left = h.left;
      console = k.takes;
      page = l.takes;
      merged = all_beside h.notices k.notices l.notices;
      lines = joined w (h.notices ++ (k.notices ++ l.notices)) (loss journal.lost) a d e lines (subst (λ n. WentOutInOrder w (loss n) d e) same lost);
    }
