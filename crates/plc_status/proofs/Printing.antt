-- Lines of one journal, printed one behind the other.
use Rattle.std.proofs.Common.{◌≡◌, ℕ, zero, suc, ◌<◌, List, [], ◌∷◌, ◌++◌, length, Result, Ok, Err, inl, inr, refl, subst, sym, ap, ◌∙◌, append_assoc, append-nil, arith}
use Rattle.io_model.specs.declared.counted.DeviceFault.{DeviceFault}
use Rattle.io_model.specs.declared.counted.CountedWrite.{Ghosts as CountedWriter}
use Rattle.rtrb.specs.Ring.{SameConsumer}
use Rattle.il_text.specs.Telling.{Sends, WentOut}
use Rattle.plc_status.specs.declared.notice.Notice.{Notice}
use Rattle.plc_status.specs.declared.feed.Feed.{Feed}
use Rattle.plc_status.specs.declared.notice.Notice.TheVariants as notices
use Rattle.plc_status.specs.Journal.{PrintsOf, Takes, loss, printed}
use Rattle.plc_status.specs.Notices.{WentOutInOrder, notice_line}

went_out : {W : Type 0} (w : CountedWriter W) (text : List ℕ) (old new : W) (r : Result (Unit {0}) DeviceFault) → Sends w text old new r → WentOut w text old new
went_out w text old new (Ok done) sends = inl sends.sent
went_out w text old new (Err e) sends = inr sends.device

pub one : {W : Type 0} (w : CountedWriter W) (notice : Notice) (old new : W) (r : Result (Unit {0}) DeviceFault) → Sends w (notice_line notice) old new r → WentOutInOrder w (notice ∷ []) old new
one w notice old new r sends = (new, went_out w (notice_line notice) old new r sends, refl)

pub joined : {W : Type 0} (w : CountedWriter W) (early late : List Notice) (a b c : W) → WentOutInOrder w early a b → WentOutInOrder w late b c → WentOutInOrder w (early ++ late) a c
joined w [] late a b c before after = subst (λ it. WentOutInOrder w late it c) before after
joined w (notice ∷ early) late a b c before after = (before.0, before.1, joined w early late before.0 b c before.2 after)

same_both : (a b c : Feed) → SameConsumer a.consumer b.consumer → SameConsumer b.consumer c.consumer → SameConsumer a.consumer c.consumer
same_both a b c h k = ((k.0.0 ∙ h.0.0, k.0.1 ∙ h.0.1, k.0.2 ∙ h.0.2, k.0.3 ∙ h.0.3), k.1 ∙ h.1)

pub taken_both : (a b c : Feed) (early late : List Notice) → Takes a b early → Takes b c late → Takes a c (early ++ late)
taken_both a b c early late h k = record {
  same = same_both a b c h.same k.same;
  taken = k.taken ∙ ap (λ (before : List Notice). before ++ late) h.taken ∙ append_assoc (printed a) early late;
}

pub taken_none : (a : Feed) → Takes a a []
taken_none a = record { same = ((refl, refl, refl, refl), refl); taken = sym (append-nil (printed a)) }

-- nothing was taken, and nothing printed
pub none : {W : Type 0} (w : CountedWriter W) (a b : Feed) (at : W) → SameConsumer a.consumer b.consumer → printed b ≡ printed a → PrintsOf w a b at at
none w a b at same is = record { notices = []; takes = record { same = same; taken = is ∙ sym (append-nil (printed a)) }; lines = refl }

pub nothing : {W : Type 0} (w : CountedWriter W) (a : Feed) (at : W) → PrintsOf w a a at at
nothing w a at = none w a a at ((refl, refl, refl, refl), refl) refl

pub both : {W : Type 0} (w : CountedWriter W) (a b c : Feed) (x y z : W) → PrintsOf w a b x y → PrintsOf w b c y z → PrintsOf w a c x z
both w a b c x y z h k = record {
  notices = h.notices ++ k.notices;
  takes = taken_both a b c h.notices k.notices h.takes k.takes;
  lines = joined w h.notices k.notices x y z h.lines k.lines;
}

-- one was taken, and its line printed
pub taken : {W : Type 0} (w : CountedWriter W) (a b : Feed) (notice : Notice) (x y : W) (r : Result (Unit {0}) DeviceFault) → SameConsumer a.consumer b.consumer → printed b ≡ printed a ++ notice ∷ [] → Sends w (notice_line notice) x y r → PrintsOf w a b x y
taken w a b notice x y r same is sends = record { notices = notice ∷ []; takes = record { same = same; taken = is }; lines = one w notice x y r sends }

-- where none is left, all were printed
pub all_done : (done left all : List Notice) → all ≡ done ++ left → length left ≡ 0 → all ≡ done
all_done done [] all is none = is ∙ append-nil done
all_done done (x ∷ xs) all is none = absurd (omega (arith, none))

pub none_lost : {W : Type 0} (w : CountedWriter W) (n : ℕ) (old new : W) → n ≡ 0 → new ≡ old → WentOutInOrder w (loss n) old new
none_lost w n old new is same = subst (λ (k : ℕ). WentOutInOrder w (loss k) old new) (sym is) same

pub some_lost : {W : Type 0} (w : CountedWriter W) (n : ℕ) (old new : W) (r : Result (Unit {0}) DeviceFault) → 0 < n → Sends w (notice_line (notices.Lost n)) old new r → WentOutInOrder w (loss n) old new
some_lost w zero old new r some sends = absurd (omega (arith, some))
some_lost w (suc n) old new r some sends = one w (notices.Lost (suc n)) old new r sends

-- what is known to be there was printed
pub known : {W : Type 0} (w : CountedWriter W) (old looked new : Feed) (xs : List Notice) (a b : W) → SameConsumer old.consumer looked.consumer → printed looked ≡ printed old → SameConsumer looked.consumer new.consumer → printed new ≡ printed looked ++ xs → WentOutInOrder w xs a b → PrintsOf w old new a b
known w old looked new xs a b first same then_ is lines = record {
  notices = xs;
  takes = record { same = same_both old looked new first then_; taken = is ∙ ap (λ (ys : List Notice). ys ++ xs) same };
  lines = lines;
}

-- some were printed of all that are known to be there, and these are left
pub record Partly {W : Type 0} (w : CountedWriter W) (old now : Feed) (all left : List Notice) (before after : W) : Type 0 where
  pub prints : PrintsOf w old now before after
  pub all_is : all ≡ prints.notices ++ left

pub partly_none : {W : Type 0} (w : CountedWriter W) (a : Feed) (all : List Notice) (at : W) → Partly w a a all all at at
unfolding nothing none
partly_none w a all at = record { prints = nothing w a at; all_is = refl }

pub partly_more : {W : Type 0} (w : CountedWriter W) (a b c : Feed) (notice : Notice) (all left less : List Notice) (x y z : W) (r : Result (Unit {0}) DeviceFault)
    → Partly w a b all left x y → SameConsumer b.consumer c.consumer → printed c ≡ printed b ++ notice ∷ [] → left ≡ notice ∷ less → Sends w (notice_line notice) y z r → Partly w a c all less x z
unfolding both taken
partly_more w a b c notice all left less x y z r before same is gone sends = record {
  prints = both w a b c x y z before.prints (taken w b c notice y z r same is sends);
  all_is = before.all_is ∙ ap (λ (xs : List Notice). before.prints.notices ++ xs) gone ∙ sym (append_assoc before.prints.notices (notice ∷ []) less);
}
