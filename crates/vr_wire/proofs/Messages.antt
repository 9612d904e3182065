-- Each reader takes exactly the texts of the values that have one: what messages say, and messages.
use Rattle.std.proofs.Common.{◌≡◌, ℕ, zero, suc, ◌+◌, ◌-◌, ◌^◌, ◌<◌, ◌≤◌, Bool, true, false, cond, ltb, List, [], ◌++◌, length, Option, Some, None, refl, sym, ap, subst, ◌∙◌, arith, lit<}
use Rattle.std.specs.Prelude.{slice_get, ◌==◌}
use Rattle.std.specs.Int.{w8, w64, to_be_bytes}
use Rattle.std.proofs.lemmas.Bool.{ltb-true, ltb-false, le-ltb, lt-ltb, eqb-true}
use Rattle.std.proofs.lemmas.List.{append-nil, nil_from_length}
use Rattle.vr_model.specs.declared.client.ClientNumber.{ClientNumber}
use Rattle.vr_model.specs.declared.message.Party.{Party}
use Rattle.vr_model.specs.declared.message.Party.TheVariants.{Replica, Client}
use Rattle.vr_model.specs.declared.message.PrimaryState.{PrimaryState}
use Rattle.vr_model.specs.declared.message.Body.{Body}
use Rattle.vr_model.specs.declared.message.Body.TheVariants as says
use Rattle.vr_model.specs.declared.message.Message.{Message}
use Rattle.vr_model.specs.Checkpoints.{SavedCheckpoint, KeptLog}
use Rattle.vr_wire.specs.Frames.{party_code, log_tag, state_checkpoint, state_mark, body_tag, body_fields, state_bytes, message_bytes, IsEnd, IsState, IsPast, IsBody, IsLawful, may_send, may_receive, FitsState, FitsBody}
use Rattle.vr_wire.specs.Logs.{log_bytes}
use Rattle.vr_wire.specs.MessageReading.{client_of, log_at, primary_state_at, state_readers, state_at, do_view_change_at, start_view_at, recovery_response_at, is_past, has_past, new_state_at, body_at, client_end, party_of_code, party_at, parts_at, message_at}
use Rattle.vr_wire.specs.Reading.{◌>>=◌, number_at, fields_4, read_by, ended}
use Rattle.vr_wire.proofs.Fields.{IsBytes, bind_some, Takes, Takes-then, IsInverse, number8, number64, took_0, took_1, took_2, took_3, took_4, again_1, again_2, again_3, again_4, lawful_inverse, tagged_takes, tagged_again}
use Rattle.vr_wire.proofs.Formats.{answer_inverse, passing}
use Rattle.vr_wire.proofs.LogFormats.{client_sound, client_again, request_inverse, is_behind, FitsKept, log_inverse}

-- the tag of what carries a log
tag_is : (c : Option SavedCheckpoint) (behind : Bool) (whole past : ℕ) → is_behind c ≡ behind → log_tag c whole past ≡ cond behind past whole
tag_is None behind whole past e = ap (λ (b : Bool). cond b past whole) e
tag_is (Some c) behind whole past e = ap (λ (b : Bool). cond b past whole) e

-- ---- a primary's state

-- a response that isn't told of a checkpoint by its tag may have no state
abbrev IsMarked : Bool → Option PrimaryState → Type 0
IsMarked behind state = is_behind (state_checkpoint state) ≡ behind

record FitsMarked (behind : Bool) (state : Option PrimaryState) : Type 0 where
  is : IsMarked behind state
  lawful : IsState state
  fits : FitsState state

-- a primary's commit number and log, without its mark
abbrev bare_bytes : Option PrimaryState → List ℕ
bare_bytes None = []
bare_bytes (Some state) = to_be_bytes w64 state.commit_number ++ log_bytes state.log

abbrev IsThere : Option PrimaryState → Type 0
IsThere None = ⊥
IsThere (Some state) = Unit {0}

record FitsPrimary (behind : Bool) (state : Option PrimaryState) : Type 0 where
  there : IsThere state
  fits : FitsMarked behind state

primary_again : (behind : Bool) (x : Option PrimaryState) (rest : List ℕ) → FitsPrimary behind x → primary_state_at behind (bare_bytes x ++ rest) ≡ Some (x, rest)
primary_again behind None rest fits = absurd fits.there
primary_again behind (Some state) rest fits =
    again_2 (λ k log. Some (record { commit_number = k; log = log })) number64 (log_inverse behind) state.commit_number state.log rest fits.fits.fits.0 (record { is = fits.fits.is; lawful = fits.fits.lawful; fits = fits.fits.fits.1 })

primary_inverse : (behind : Bool) → IsInverse bare_bytes (FitsPrimary behind) (primary_state_at behind)
primary_inverse behind = record {
  takes = λ bytes x rest fits e.
      let t = took_2 (λ k log. Some (record { commit_number = k; log = log })) number64 (log_inverse behind) bytes x rest fits e in
      subst (λ (y : Option PrimaryState). Takes bytes (bare_bytes y) rest × FitsPrimary behind y) (sym t.is) (t.took, record { there = tt; fits = record { is = t.fits_two.is; lawful = t.fits_two.lawful; fits = (t.fits_one, t.fits_two.fits) } });
  again = primary_again behind;
}

-- one from its first entry on has a mark
marked : (state : PrimaryState) → is_behind state.log.checkpoint ≡ false → state_bytes (Some state) ≡ to_be_bytes w8 1 ++ bare_bytes (Some state)
marked state e = marked_by state.log.checkpoint (bare_bytes (Some state)) e
  where
    marked_by : (c : Option SavedCheckpoint) (bytes : List ℕ) → is_behind c ≡ false → state_mark c ++ bytes ≡ to_be_bytes w8 1 ++ bytes
    marked_by None bytes e = refl
    marked_by (Some c) bytes e = absurd (let no : true ≡ false = e in cc)

-- one behind a checkpoint has none
bare : (x : Option PrimaryState) → is_behind (state_checkpoint x) ≡ true → state_bytes x ≡ bare_bytes x
bare None e = absurd (let no : false ≡ true = e in cc)
bare (Some state) e = bare_by state.log.checkpoint (bare_bytes (Some state)) e
  where
    bare_by : (c : Option SavedCheckpoint) (bytes : List ℕ) → is_behind c ≡ true → state_mark c ++ bytes ≡ bytes
    bare_by None bytes e = absurd (let no : false ≡ true = e in cc)
    bare_by (Some c) bytes e = refl

state_takes : (tag : ℕ) (bytes : List ℕ) (x : Option PrimaryState) (rest : List ℕ) → IsBytes bytes → read_by (slice_get state_readers tag) bytes ≡ Some (x, rest)
    → (text : List ℕ) × (state_bytes x ≡ to_be_bytes w8 tag ++ text) × Takes bytes text rest × FitsMarked false x
state_takes zero bytes x rest fits e =
    let none : Option PrimaryState = None in
    let t = took_0 none bytes x rest fits e in
    ([], ap state_bytes t.0, t.1, subst (FitsMarked false) (sym t.0) (record { is = refl; lawful = tt; fits = tt }))
state_takes (suc zero) bytes x rest fits e =
    let t = (primary_inverse false).takes bytes x rest fits e in
    (bare_bytes x, with_mark x t.1, t.0, t.1.fits)
  where
    with_mark : (x : Option PrimaryState) → FitsPrimary false x → state_bytes x ≡ to_be_bytes w8 1 ++ bare_bytes x
    with_mark None fits = absurd fits.there
    with_mark (Some state) fits = marked state fits.fits.is
state_takes (suc (suc tag)) bytes x rest fits e = absurd cc

state_again : (x : Option PrimaryState) (rest : List ℕ) → FitsMarked false x → state_at false (state_bytes x ++ rest) ≡ Some (x, rest)
state_again None rest fits = tagged_again state_readers 0 [] rest None (lit< tt) refl
state_again (Some state) rest fits =
    ap (λ (bytes : List ℕ). state_at false (bytes ++ rest)) (marked state fits.is)
    ∙ tagged_again state_readers 1 (bare_bytes (Some state)) rest (Some state) (lit< tt) (primary_again false (Some state) rest (record { there = tt; fits = fits }))

there_behind : (x : Option PrimaryState) → is_behind (state_checkpoint x) ≡ true → IsThere x
there_behind None e = absurd (let no : false ≡ true = e in cc)
there_behind (Some state) e = tt

state_inverse : (behind : Bool) → IsInverse state_bytes (FitsMarked behind) (state_at behind)
state_inverse false = record {
  takes = λ bytes x rest fits e.
      let s = tagged_takes state_readers bytes x rest fits e in
      let t = state_takes s.0 s.1 x rest s.2.rest_fits s.3 in
      (subst (λ (text : List ℕ). Takes bytes text rest) (sym t.1) (Takes-then bytes (to_be_bytes w8 s.0) s.1 t.0 rest s.2 t.2), t.3);
  again = state_again;
}
state_inverse true = record {
  takes = λ bytes x rest fits e.
      let t = (primary_inverse true).takes bytes x rest fits e in
      (subst (λ (text : List ℕ). Takes bytes text rest) (sym (bare x t.1.fits.is)) t.0, t.1.fits);
  again = λ x rest fits. ap (λ (bytes : List ℕ). state_at true (bytes ++ rest)) (bare x fits.is) ∙ primary_again true x rest (record { there = there_behind x fits.is; fits = fits });
}

-- ---- a part of a log that was asked for

past_sound : (p : ℕ) (c : Option SavedCheckpoint) → is_past p c ≡ true → IsPast p c
past_sound p None e = tt
past_sound p (Some c) e = ltb-true p c.base e

past_again : (p : ℕ) (c : Option SavedCheckpoint) → IsPast p c → is_past p c ≡ true
past_again p None h = refl
past_again p (Some c) h = lt-ltb p c.base h

-- ---- what messages say

record TookBody (tag : ℕ) (bytes : List ℕ) (x : Body) (rest : List ℕ) : Type 0 where
  tag_is : body_tag x ≡ tag
  took : Takes bytes (body_fields x) rest
  lawful : IsBody x
  fits : FitsBody x

do_view_change_takes : (behind : Bool) (bytes : List ℕ) (x : Body) (rest : List ℕ) → IsBytes bytes → do_view_change_at behind bytes ≡ Some (x, rest) → TookBody (cond behind 13 7) bytes x rest
do_view_change_takes behind bytes x rest fits e =
    let t = took_4 says.DoViewChange number64 number64 number64 (log_inverse behind) bytes x rest fits e in
    subst (λ (y : Body). TookBody (cond behind 13 7) bytes y rest) (sym t.is) (record { tag_is = tag_is t.four.checkpoint behind 7 13 t.fits_four.is; took = t.took; lawful = t.fits_four.lawful; fits = (t.fits_one, t.fits_two, t.fits_three, t.fits_four.fits) })

start_view_takes : (behind : Bool) (bytes : List ℕ) (x : Body) (rest : List ℕ) → IsBytes bytes → start_view_at behind bytes ≡ Some (x, rest) → TookBody (cond behind 14 8) bytes x rest
start_view_takes behind bytes x rest fits e =
    let t = took_3 says.StartView number64 number64 (log_inverse behind) bytes x rest fits e in
    subst (λ (y : Body). TookBody (cond behind 14 8) bytes y rest) (sym t.is) (record { tag_is = tag_is t.three.checkpoint behind 8 14 t.fits_three.is; took = t.took; lawful = t.fits_three.lawful; fits = (t.fits_one, t.fits_two, t.fits_three.fits) })

recovery_response_takes : (behind : Bool) (bytes : List ℕ) (x : Body) (rest : List ℕ) → IsBytes bytes → recovery_response_at behind bytes ≡ Some (x, rest) → TookBody (cond behind 15 10) bytes x rest
recovery_response_takes behind bytes x rest fits e =
    let t = took_3 says.RecoveryResponse number64 number64 (state_inverse behind) bytes x rest fits e in
    subst (λ (y : Body). TookBody (cond behind 15 10) bytes y rest) (sym t.is) (record { tag_is = tag_is (state_checkpoint t.three) behind 10 15 t.fits_three.is; took = t.took; lawful = t.fits_three.lawful; fits = (t.fits_one, t.fits_two, t.fits_three.fits) })

-- a NEWSTATE before its checkpoint was looked at
record FitsNewState (behind : Bool) (x : Body) : Type 0 where
  v : ℕ
  p : ℕ
  k : ℕ
  log : KeptLog
  is : x ≡ says.NewState v p k log
  fits_v : v < 2 ^ 64
  fits_p : p < 2 ^ 64
  fits_k : k < 2 ^ 64
  fits_log : FitsKept behind log

any_new_state_inverse : (behind : Bool) → IsInverse body_fields (FitsNewState behind) (λ bytes. fields_4 says.NewState (number_at w64) (number_at w64) (number_at w64) (log_at behind) bytes)
any_new_state_inverse behind = record {
  takes = λ bytes x rest fits e.
      let t = took_4 says.NewState number64 number64 number64 (log_inverse behind) bytes x rest fits e in
      (subst (λ (y : Body). Takes bytes (body_fields y) rest) (sym t.is) t.took, record { v = t.one; p = t.two; k = t.three; log = t.four; is = t.is; fits_v = t.fits_one; fits_p = t.fits_two; fits_k = t.fits_three; fits_log = t.fits_four });
  again = λ x rest fits.
      subst (λ (y : Body). fields_4 says.NewState (number_at w64) (number_at w64) (number_at w64) (log_at behind) (body_fields y ++ rest) ≡ Some (y, rest)) (sym fits.is)
      (again_4 says.NewState number64 number64 number64 (log_inverse behind) fits.v fits.p fits.k fits.log rest fits.fits_v fits.fits_p fits.fits_k fits.fits_log);
}

new_state_takes : (behind : Bool) (bytes : List ℕ) (x : Body) (rest : List ℕ) → IsBytes bytes → new_state_at behind bytes ≡ Some (x, rest) → TookBody (cond behind 16 12) bytes x rest
new_state_takes behind bytes x rest fits e =
    let t = (passing has_past (any_new_state_inverse behind)).takes bytes x rest fits e in
    let n = t.1.0 in
    let took = subst (λ (y : Body). Takes bytes (body_fields y) rest) n.is t.0 in
    let past = past_sound n.p n.log.checkpoint (sym (ap has_past n.is) ∙ t.1.1) in
    subst (λ (y : Body). TookBody (cond behind 16 12) bytes y rest) (sym n.is) (record { tag_is = tag_is n.log.checkpoint behind 12 16 n.fits_log.is; took = took; lawful = (n.fits_log.lawful, past); fits = (n.fits_v, n.fits_p, n.fits_k, n.fits_log.fits) })

body_takes : (tag : ℕ) (bytes : List ℕ) (x : Body) (rest : List ℕ) → IsBytes bytes → body_at tag bytes ≡ Some (x, rest) → TookBody tag bytes x rest
body_takes zero bytes x rest fits e = absurd cc
body_takes (suc zero) bytes x rest fits e =
    let t = took_1 says.Request request_inverse bytes x rest fits e in
    subst (λ (y : Body). TookBody 1 bytes y rest) (sym t.is) (record { tag_is = refl; took = t.took; lawful = tt; fits = t.fits_one })
body_takes (suc (suc zero)) bytes x rest fits e =
    let t = took_4 says.Prepare number64 request_inverse number64 number64 bytes x rest fits e in
    subst (λ (y : Body). TookBody 2 bytes y rest) (sym t.is) (record { tag_is = refl; took = t.took; lawful = tt; fits = (t.fits_one, t.fits_two, t.fits_three, t.fits_four) })
body_takes (suc (suc (suc zero))) bytes x rest fits e =
    let t = took_2 says.PrepareOk number64 number64 bytes x rest fits e in
    subst (λ (y : Body). TookBody 3 bytes y rest) (sym t.is) (record { tag_is = refl; took = t.took; lawful = tt; fits = (t.fits_one, t.fits_two) })
body_takes (suc (suc (suc (suc zero)))) bytes x rest fits e =
    let t = took_2 says.Commit number64 number64 bytes x rest fits e in
    subst (λ (y : Body). TookBody 4 bytes y rest) (sym t.is) (record { tag_is = refl; took = t.took; lawful = tt; fits = (t.fits_one, t.fits_two) })
body_takes (suc (suc (suc (suc (suc zero))))) bytes x rest fits e =
    let t = took_3 says.Reply number64 number64 answer_inverse bytes x rest fits e in
    subst (λ (y : Body). TookBody 5 bytes y rest) (sym t.is) (record { tag_is = refl; took = t.took; lawful = t.fits_three.0; fits = (t.fits_one, t.fits_two, t.fits_three.1) })
body_takes (suc (suc (suc (suc (suc (suc zero)))))) bytes x rest fits e =
    let t = took_1 says.StartViewChange number64 bytes x rest fits e in
    subst (λ (y : Body). TookBody 6 bytes y rest) (sym t.is) (record { tag_is = refl; took = t.took; lawful = tt; fits = t.fits_one })
body_takes (suc (suc (suc (suc (suc (suc (suc zero))))))) bytes x rest fits e = do_view_change_takes false bytes x rest fits e
body_takes (suc (suc (suc (suc (suc (suc (suc (suc zero)))))))) bytes x rest fits e = start_view_takes false bytes x rest fits e
body_takes (suc (suc (suc (suc (suc (suc (suc (suc (suc zero))))))))) bytes x rest fits e =
    let t = took_2 says.Recovery number64 number64 bytes x rest fits e in
    subst (λ (y : Body). TookBody 9 bytes y rest) (sym t.is) (record { tag_is = refl; took = t.took; lawful = tt; fits = (t.fits_one, t.fits_two) })
body_takes (suc (suc (suc (suc (suc (suc (suc (suc (suc (suc zero)))))))))) bytes x rest fits e = recovery_response_takes false bytes x rest fits e
body_takes (suc (suc (suc (suc (suc (suc (suc (suc (suc (suc (suc zero))))))))))) bytes x rest fits e =
    let t = took_2 says.GetState number64 number64 bytes x rest fits e in
    subst (λ (y : Body). TookBody 11 bytes y rest) (sym t.is) (record { tag_is = refl; took = t.took; lawful = tt; fits = (t.fits_one, t.fits_two) })
body_takes (suc (suc (suc (suc (suc (suc (suc (suc (suc (suc (suc (suc zero)))))))))))) bytes x rest fits e = new_state_takes false bytes x rest fits e
body_takes (suc (suc (suc (suc (suc (suc (suc (suc (suc (suc (suc (suc (suc zero))))))))))))) bytes x rest fits e = do_view_change_takes true bytes x rest fits e
body_takes (suc (suc (suc (suc (suc (suc (suc (suc (suc (suc (suc (suc (suc (suc zero)))))))))))))) bytes x rest fits e = start_view_takes true bytes x rest fits e
body_takes (suc (suc (suc (suc (suc (suc (suc (suc (suc (suc (suc (suc (suc (suc (suc zero))))))))))))))) bytes x rest fits e = recovery_response_takes true bytes x rest fits e
body_takes (suc (suc (suc (suc (suc (suc (suc (suc (suc (suc (suc (suc (suc (suc (suc (suc zero)))))))))))))))) bytes x rest fits e = new_state_takes true bytes x rest fits e
body_takes (suc (suc (suc (suc (suc (suc (suc (suc (suc (suc (suc (suc (suc (suc (suc (suc (suc tag))))))))))))))))) bytes x rest fits e = absurd cc

-- what is read again at the tag that the log's checkpoint gives
at_tag : (c : Option SavedCheckpoint) (whole past : ℕ) (P : ℕ → Type 0) → ((behind : Bool) → is_behind c ≡ behind → P (cond behind past whole)) → P (log_tag c whole past)
at_tag None whole past P h = h false refl
at_tag (Some c) whole past P h = h true refl

do_view_change_again : (behind : Bool) (v last k : ℕ) (log : KeptLog) (rest : List ℕ) → FitsBody (says.DoViewChange v last k log) → FitsKept behind log → do_view_change_at behind (body_fields (says.DoViewChange v last k log) ++ rest) ≡ Some (says.DoViewChange v last k log, rest)
do_view_change_again behind v last k log rest fits kept = again_4 says.DoViewChange number64 number64 number64 (log_inverse behind) v last k log rest fits.0 fits.1 fits.2 kept

start_view_again : (behind : Bool) (v k : ℕ) (log : KeptLog) (rest : List ℕ) → FitsBody (says.StartView v k log) → FitsKept behind log → start_view_at behind (body_fields (says.StartView v k log) ++ rest) ≡ Some (says.StartView v k log, rest)
start_view_again behind v k log rest fits kept = again_3 says.StartView number64 number64 (log_inverse behind) v k log rest fits.0 fits.1 kept

recovery_response_again : (behind : Bool) (v x : ℕ) (state : Option PrimaryState) (rest : List ℕ) → FitsBody (says.RecoveryResponse v x state) → FitsMarked behind state → recovery_response_at behind (body_fields (says.RecoveryResponse v x state) ++ rest) ≡ Some (says.RecoveryResponse v x state, rest)
recovery_response_again behind v x state rest fits kept = again_3 says.RecoveryResponse number64 number64 (state_inverse behind) v x state rest fits.0 fits.1 kept

new_state_again : (behind : Bool) (v p k : ℕ) (log : KeptLog) (rest : List ℕ) → FitsBody (says.NewState v p k log) → IsPast p log.checkpoint → FitsKept behind log → new_state_at behind (body_fields (says.NewState v p k log) ++ rest) ≡ Some (says.NewState v p k log, rest)
new_state_again behind v p k log rest fits past kept =
    (passing has_past (any_new_state_inverse behind)).again (says.NewState v p k log) rest (record { v = v; p = p; k = k; log = log; is = refl; fits_v = fits.0; fits_p = fits.1; fits_k = fits.2; fits_log = kept }, past_again p log.checkpoint past)

-- the fields are read again by the reader with that number
abbrev ReadAgain : Body → List ℕ → ℕ → Type 0
ReadAgain x rest tag = body_at tag (body_fields x ++ rest) ≡ Some (x, rest)

-- by the reader of what is whole, or of what is behind a checkpoint
by_both : (whole past : ℕ) (x : Body) (rest : List ℕ) (behind : Bool) → (behind ≡ false → ReadAgain x rest whole) → (behind ≡ true → ReadAgain x rest past) → ReadAgain x rest (cond behind past whole)
by_both whole past x rest false h k = h refl
by_both whole past x rest true h k = k refl

body_again : (x : Body) (rest : List ℕ) → IsBody x → FitsBody x → ReadAgain x rest (body_tag x)
body_again (says.Request m) rest lawful fits = again_1 says.Request request_inverse m rest fits
body_again (says.Prepare v m p k) rest lawful fits = again_4 says.Prepare number64 request_inverse number64 number64 v m p k rest fits.0 fits.1 fits.2 fits.3
body_again (says.PrepareOk v p) rest lawful fits = again_2 says.PrepareOk number64 number64 v p rest fits.0 fits.1
body_again (says.Commit v k) rest lawful fits = again_2 says.Commit number64 number64 v k rest fits.0 fits.1
body_again (says.Reply v number answer) rest lawful fits = again_3 says.Reply number64 number64 answer_inverse v number answer rest fits.0 fits.1 (lawful, fits.2)
body_again (says.StartViewChange v) rest lawful fits = again_1 says.StartViewChange number64 v rest fits
body_again (says.DoViewChange v last k log) rest lawful fits =
    at_tag log.checkpoint 7 13 (ReadAgain (says.DoViewChange v last k log) rest) (λ behind is.
    by_both 7 13 (says.DoViewChange v last k log) rest behind
    (λ e. do_view_change_again false v last k log rest fits (record { is = is ∙ e; lawful = lawful; fits = fits.3 }))
    (λ e. do_view_change_again true v last k log rest fits (record { is = is ∙ e; lawful = lawful; fits = fits.3 })))
body_again (says.StartView v k log) rest lawful fits =
    at_tag log.checkpoint 8 14 (ReadAgain (says.StartView v k log) rest) (λ behind is.
    by_both 8 14 (says.StartView v k log) rest behind
    (λ e. start_view_again false v k log rest fits (record { is = is ∙ e; lawful = lawful; fits = fits.2 }))
    (λ e. start_view_again true v k log rest fits (record { is = is ∙ e; lawful = lawful; fits = fits.2 })))
body_again (says.Recovery x w) rest lawful fits = again_2 says.Recovery number64 number64 x w rest fits.0 fits.1
body_again (says.RecoveryResponse v x state) rest lawful fits =
    at_tag (state_checkpoint state) 10 15 (ReadAgain (says.RecoveryResponse v x state) rest) (λ behind is.
    by_both 10 15 (says.RecoveryResponse v x state) rest behind
    (λ e. recovery_response_again false v x state rest fits (record { is = is ∙ e; lawful = lawful; fits = fits.2 }))
    (λ e. recovery_response_again true v x state rest fits (record { is = is ∙ e; lawful = lawful; fits = fits.2 })))
body_again (says.GetState v p) rest lawful fits = again_2 says.GetState number64 number64 v p rest fits.0 fits.1
body_again (says.NewState v p k log) rest lawful fits =
    at_tag log.checkpoint 12 16 (ReadAgain (says.NewState v p k log) rest) (λ behind is.
    by_both 12 16 (says.NewState v p k log) rest behind
    (λ e. new_state_again false v p k log rest fits lawful.1 (record { is = is ∙ e; lawful = lawful.0; fits = fits.3 }))
    (λ e. new_state_again true v p k log rest fits lawful.1 (record { is = is ∙ e; lawful = lawful.0; fits = fits.3 })))

-- a fact of both tags
of_tag : (c : Option SavedCheckpoint) (whole past : ℕ) (P : ℕ → Type 0) → P whole → P past → P (log_tag c whole past)
of_tag None whole past P h k = h
of_tag (Some c) whole past P h k = k

tag_small : (x : Body) → body_tag x < 2 ^ 8
tag_small (says.Request m) = lit< tt
tag_small (says.Prepare v m p k) = lit< tt
tag_small (says.PrepareOk v p) = lit< tt
tag_small (says.Commit v k) = lit< tt
tag_small (says.Reply v number answer) = lit< tt
tag_small (says.StartViewChange v) = lit< tt
tag_small (says.DoViewChange v last k log) = of_tag log.checkpoint 7 13 (λ n. n < 2 ^ 8) (lit< tt) (lit< tt)
tag_small (says.StartView v k log) = of_tag log.checkpoint 8 14 (λ n. n < 2 ^ 8) (lit< tt) (lit< tt)
tag_small (says.Recovery x w) = lit< tt
tag_small (says.RecoveryResponse v x state) = of_tag (state_checkpoint state) 10 15 (λ n. n < 2 ^ 8) (lit< tt) (lit< tt)
tag_small (says.GetState v p) = lit< tt
tag_small (says.NewState v p k log) = of_tag log.checkpoint 12 16 (λ n. n < 2 ^ 8) (lit< tt) (lit< tt)

-- a client sends requests alone, and gets replies alone
sends : (x : Body) → (body_tag x == 1) ≡ may_send x
sends (says.Request m) = refl
sends (says.Prepare v m p k) = refl
sends (says.PrepareOk v p) = refl
sends (says.Commit v k) = refl
sends (says.Reply v number answer) = refl
sends (says.StartViewChange v) = refl
sends (says.DoViewChange v last k log) = of_tag log.checkpoint 7 13 (λ n. (n == 1) ≡ false) refl refl
sends (says.StartView v k log) = of_tag log.checkpoint 8 14 (λ n. (n == 1) ≡ false) refl refl
sends (says.Recovery x w) = refl
sends (says.RecoveryResponse v x state) = of_tag (state_checkpoint state) 10 15 (λ n. (n == 1) ≡ false) refl refl
sends (says.GetState v p) = refl
sends (says.NewState v p k log) = of_tag log.checkpoint 12 16 (λ n. (n == 1) ≡ false) refl refl

receives : (x : Body) → (body_tag x == 5) ≡ may_receive x
receives (says.Request m) = refl
receives (says.Prepare v m p k) = refl
receives (says.PrepareOk v p) = refl
receives (says.Commit v k) = refl
receives (says.Reply v number answer) = refl
receives (says.StartViewChange v) = refl
receives (says.DoViewChange v last k log) = of_tag log.checkpoint 7 13 (λ n. (n == 5) ≡ false) refl refl
receives (says.StartView v k log) = of_tag log.checkpoint 8 14 (λ n. (n == 5) ≡ false) refl refl
receives (says.Recovery x w) = refl
receives (says.RecoveryResponse v x state) = of_tag (state_checkpoint state) 10 15 (λ n. (n == 5) ≡ false) refl refl
receives (says.GetState v p) = refl
receives (says.NewState v p k log) = of_tag log.checkpoint 12 16 (λ n. (n == 5) ≡ false) refl refl

-- ---- senders and receivers

client_end_sound : (may : Bool) (n : ℕ) (p : Party) → client_end may n ≡ Some p → (party_code p ≡ 128 + n) × IsEnd may p
client_end_sound false n p e = absurd cc
client_end_sound true n p e =
    let b = bind_some (client_of n) (λ (c : ClientNumber). Some (Client c)) p e in
    let is : Client b.0 ≡ p = cc in
    let number = client_sound n b.0 b.1 in
    (sym (ap party_code is) ∙ ap (λ (m : ℕ). 128 + m) number, subst (IsEnd true) is refl)

party_by : (low middle may : Bool) (n : ℕ) (p : Party) → ltb n 7 ≡ low → ltb n 128 ≡ middle → cond low (Some (Replica n)) (cond middle None (client_end may (n - 128))) ≡ Some p → (party_code p ≡ n) × IsEnd may p
party_by true middle may n p e f h = let is : Replica n ≡ p = cc in (sym (ap party_code is), subst (IsEnd may) is (ltb-true n 7 e))
party_by false true may n p e f h = absurd cc
party_by false false may n p e f h =
    let s = client_end_sound may (n - 128) p h in
    let high : 128 ≤ n = ltb-false n 128 f in
    (s.0 ∙ omega arith, s.1)

party_sound : (may : Bool) (n : ℕ) (p : Party) → party_of_code may n ≡ Some p → (party_code p ≡ n) × IsEnd may p
party_sound may n p e = party_by (ltb n 7) (ltb n 128) may n p refl refl e

party_again : (may : Bool) (p : Party) → IsEnd may p → (party_code p < 2 ^ 8) × (party_of_code may (party_code p) ≡ Some p)
party_again may (Replica s) lt = (omega arith, (let low : ltb s 7 ≡ true = lt-ltb s 7 lt in rw low refl))
party_again false (Client c) is = absurd (let no : false ≡ true = is in cc)
party_again true (Client c) is =
    let high : ltb (128 + c.number) 7 ≡ false = le-ltb _ _ (omega arith) in
    let middle : ltb (128 + c.number) 128 ≡ false = le-ltb _ _ (omega arith) in
    let back : 128 + c.number - 128 ≡ c.number = omega arith in
    (omega (arith, c.below), rw (high, middle, back, client_again c) refl)

party_inverse : (may : Bool) → IsInverse (λ p. to_be_bytes w8 (party_code p)) (IsEnd may) (party_at may)
party_inverse may = lawful_inverse number8 (record { sound = λ n p lt e. party_sound may n p e; complete = λ p is. party_again may p is })

-- ---- messages

body_inverse : (tag : ℕ) → IsInverse body_fields (λ x. (body_tag x ≡ tag) × IsBody x × FitsBody x) (body_at tag)
body_inverse tag = record {
  takes = λ bytes x rest fits e. let t = body_takes tag bytes x rest fits e in (t.took, (t.tag_is, t.lawful, t.fits));
  again = λ x rest is. subst (λ (n : ℕ). body_at n (body_fields x ++ rest) ≡ Some (x, rest)) is.0 (body_again x rest is.1 is.2);
}

record TookParts (tag : ℕ) (bytes : List ℕ) (m : Message) (rest : List ℕ) : Type 0 where
  tag_is : body_tag m.body ≡ tag
  took : Takes bytes (to_be_bytes w8 (party_code m.from) ++ (to_be_bytes w8 (party_code m.to) ++ body_fields m.body)) rest
  lawful : IsLawful m
  fits : FitsBody m.body

parts_take : (tag : ℕ) (bytes : List ℕ) (m : Message) (rest : List ℕ) → IsBytes bytes → parts_at tag bytes ≡ Some (m, rest) → TookParts tag bytes m rest
parts_take tag bytes m rest fits e =
    let t = took_3 (λ from to body. record { from = from; to = to; body = body }) (party_inverse (tag == 1)) (party_inverse (tag == 5)) (body_inverse tag) bytes m rest fits e in
    let may_send_is : (tag == 1) ≡ may_send t.three = ap (λ (n : ℕ). n == 1) (sym t.fits_three.0) ∙ sends t.three in
    let may_receive_is : (tag == 5) ≡ may_receive t.three = ap (λ (n : ℕ). n == 5) (sym t.fits_three.0) ∙ receives t.three in
    subst (λ (y : Message). TookParts tag bytes y rest) (sym t.is) (record {
      tag_is = t.fits_three.0;
      took = t.took;
      lawful = record {
        from = subst (λ (may : Bool). IsEnd may t.one) may_send_is t.fits_one;
        to = subst (λ (may : Bool). IsEnd may t.two) may_receive_is t.fits_two;
        body = t.fits_three.1;
      };
      fits = t.fits_three.2;
    })

ended_is : {X : Type 0} (b : Bool) (x y : X) (n : ℕ) → (n == 0) ≡ b → cond b (Some x) None ≡ Some y → (n ≡ 0) × (x ≡ y)
ended_is true x y n e h = (eqb-true n 0 e, cc)
ended_is false x y n e h = absurd cc

pub message_takes : (bytes : List ℕ) (m : Message) → IsBytes bytes → message_at bytes ≡ Some m → (bytes ≡ message_bytes m) × IsLawful m × FitsBody m.body
unfolding message_at
message_takes bytes m fits e =
    let s = bind_some (number_at w8 bytes) (λ (tag : ℕ × List ℕ). parts_at tag.0 tag.1 >>= λ y. ended y.0 y.1) m e in
    let t = number8.takes bytes s.0.0 s.0.1 fits s.1 in
    let p = bind_some (parts_at s.0.0 s.0.1) (λ (y : Message × List ℕ). ended y.0 y.1) m s.2 in
    let u = parts_take s.0.0 s.0.1 p.0.0 p.0.1 t.0.rest_fits p.1 in
    let done = ended_is (length p.0.1 == 0) p.0.0 m (length p.0.1) refl p.2 in
    let nothing : p.0.1 ≡ [] = nil_from_length p.0.1 done.0 in
    let first : Takes bytes (to_be_bytes w8 (body_tag p.0.0.body)) s.0.1 = subst (λ (n : ℕ). Takes bytes (to_be_bytes w8 n) s.0.1) (sym u.tag_is) t.0 in
    let both = (Takes-then bytes (to_be_bytes w8 (body_tag p.0.0.body)) s.0.1 (to_be_bytes w8 (party_code p.0.0.from) ++ (to_be_bytes w8 (party_code p.0.0.to) ++ body_fields p.0.0.body)) p.0.1 first u.took).parts in
    let whole : bytes ≡ message_bytes p.0.0 = both ∙ ap (λ (r : List ℕ). message_bytes p.0.0 ++ r) nothing ∙ append-nil (message_bytes p.0.0) in
    subst (λ (y : Message). (bytes ≡ message_bytes y) × IsLawful y × FitsBody y.body) done.1 (whole, u.lawful, u.fits)

pub message_again : (m : Message) → IsLawful m → FitsBody m.body → message_at (message_bytes m) ≡ Some m
unfolding message_at
message_again m lawful fits =
    let tag = body_tag m.body in
    let behind = to_be_bytes w8 (party_code m.from) ++ (to_be_bytes w8 (party_code m.to) ++ body_fields m.body) in
    let parts : parts_at tag behind ≡ Some (m, []) =
    ap (parts_at tag) (sym (append-nil behind)) ∙ again_3 (λ from to body. record { from = from; to = to; body = body }) (party_inverse (tag == 1)) (party_inverse (tag == 5)) (body_inverse tag) m.from m.to m.body []
    (subst (λ (may : Bool). IsEnd may m.from) (sym (sends m.body)) lawful.from)
    (subst (λ (may : Bool). IsEnd may m.to) (sym (receives m.body)) lawful.to)
    (refl, lawful.body, fits) in
    rw (number8.again tag behind (tag_small m.body), parts) refl

pub message_long : (m : Message) → 3 ≤ length (message_bytes m)
message_long m = omega arith
