-- Sessions, put together from their pieces.
use Rattle.std.proofs.Common.{◌≡◌, ℕ, zero, suc, ◌+◌, ◌<◌, ◌≤◌, ◌⊎◌, inl, inr, List, [], ◌∷◌, ◌++◌, length, take, drop, get_or, refl, sym, ap, subst, ◌∙◌, append_assoc, arith, Option, take-append-drop, Result, Ok, Err, OnOk, OnErr, true, false}
use Rattle.std.specs.Result.{is_err}
use Rattle.std.specs.List.{flat_map, AllByRecursion}
use Rattle.std.specs.Io.KnownBytes.{Appends, Consumes, Keeps}
use Rattle.std.proofs.KnownBytes.{Appends-nil, Appends-trans, Consumes-nil, Consumes-trans, Consumes-kept}
use Rattle.std.proofs.lemmas.List.{append-nil}
use Rattle.std.proofs.lemmas.List.Concat.{flat_map-cons}
use Rattle.std.proofs.lemmas.Grind.{flat_map-append}
use Rattle.io_model.specs.Streams.{Failed, Ending, Rest, Fault, IsRest, IsOneStream, Feeds, Splits, Took, Starts}
use Rattle.modbus_wire.specs.declared.header.HeaderFault.{HeaderFault}
use Rattle.modbus_wire.specs.declared.session.SessionFault.{SessionFault}
use Rattle.modbus_wire.specs.declared.session.SessionFault.TheVariants as faults
use Rattle.modbus_wire.specs.Frames.{Adu, frame_of, IsFramed, adus, Feeding}
use Rattle.plc_host.specs.declared.requests.Requests.{Requests}
use Rattle.modbus_server.specs.Sessions.{with_reply, with_replies, Images, Answers, AnswersAll, Adds, AnswersSome}
use Rattle.modbus_server.specs.Sessions.{Serves, Breaks, BreaksAfter, Stops, Talks}
use Rattle.modbus_server.specs.declared.serve.SessionEnd.{SessionEnd}
use Rattle.modbus_server.specs.declared.serve.SessionEnd.TheVariants as ends

-- ---- requests, one behind another

pub both_answered : (a b c : Images) (us vs as' bs : List Adu) → AnswersAll a us as' b → AnswersAll b vs bs c → AnswersAll a (us ++ vs) (as' ++ bs) c
both_answered a b c [] vs [] bs h k = subst (λ (d : Images). AnswersAll d vs bs c) h k
both_answered a b c [] vs (x ∷ as') bs h k = absurd h
both_answered a b c (u ∷ us) vs [] bs h k = absurd h
both_answered a b c (u ∷ us) vs (x ∷ as') bs h k = (h.0, h.1, both_answered h.0 b c us vs as' bs h.2 k)

one_answered : (a b : Images) (u x : Adu) → Answers a u x b → AnswersAll a (u ∷ []) (x ∷ []) b
one_answered a b u x h = (b, h, refl)

frames_more : (as' : List Adu) (x : Adu) → flat_map frame_of (as' ++ x ∷ []) ≡ flat_map frame_of as' ++ frame_of x
frames_more as' x = flat_map-append frame_of as' (x ∷ []) ∙ ap (λ (l : List ℕ). flat_map frame_of as' ++ l) (flat_map-cons frame_of x [] ∙ append-nil (frame_of x))

counts_more : (n : Requests) (a b : Images) (us as' : List Adu) (u x : Adu) → AnswersAll a us as' b → with_replies n (us ++ u ∷ []) (as' ++ x ∷ []) ≡ with_reply (with_replies n us as') u x
counts_more n a b [] [] u x h = refl
counts_more n a b [] (y ∷ as') u x h = absurd h
counts_more n a b (v ∷ us) [] u x h = absurd h
counts_more n a b (v ∷ us) (y ∷ as') u x h = counts_more (with_reply n v y) h.0 b us as' u x h.2

pub adds_none : (a : Images) (out : List ℕ) (n : Requests) → Adds a [] out out n n a
adds_none a out n = record { replies = []; answered = refl; added = sym (append-nil out); counted = refl }

pub adds_more : (a b c : Images) (us : List Adu) (u x : Adu) (out mid out' : List ℕ) (n m m' : Requests) → Adds a us out mid n m b → Answers b u x c → out' ≡ mid ++ frame_of x → m' ≡ with_reply m u x → Adds a (us ++ u ∷ []) out out' n m' c
adds_more a b c us u x out mid out' n m m' t h e k = record {
  replies = t.replies ++ x ∷ [];
  answered = both_answered a b c us (u ∷ []) t.replies (x ∷ []) t.answered (one_answered b c u x h);
  added = e ∙ (ap (λ (l : List ℕ). l ++ frame_of x) t.added ∙ (append_assoc out (flat_map frame_of t.replies) (frame_of x) ∙ ap (λ (l : List ℕ). out ++ l) (sym (frames_more t.replies x))));
  counted = k ∙ (ap (λ (r : Requests). with_reply r u x) t.counted ∙ sym (counts_more n a b us t.replies u x t.answered));
}

pub answers_more : (a b c : Images) (requests : List Adu) (i : ℕ) (u x : Adu) (out mid : List ℕ) (n m : Requests) → take (i + 1) requests ≡ take i requests ++ u ∷ [] → Adds a (take i requests) out mid n m b → Answers b u x c → AnswersSome a requests c
answers_more a b c requests i u x out mid n m e t h =
    (i + 1, t.replies ++ x ∷ [], subst (λ (l : List Adu). AnswersAll a l (t.replies ++ x ∷ []) c) (sym e) (both_answered a b c (take i requests) (u ∷ []) t.replies (x ∷ []) t.answered (one_answered b c u x h)))

pub framed_at : (us : List Adu) (i : ℕ) (d : Adu) → AllByRecursion IsFramed us → i < length us → IsFramed (get_or us i d)
framed_at [] i d all h = absurd (omega arith)
framed_at (u ∷ us) zero d all h = all.0
framed_at (u ∷ us) (suc i) d all h = framed_at us i d all.1 (omega arith)

framed_take : (us : List Adu) (count : ℕ) → AllByRecursion IsFramed us → AllByRecursion IsFramed (take count us)
framed_take us zero all = tt
framed_take [] (suc count) all = tt
framed_take (u ∷ us) (suc count) all = (all.0, framed_take us count all.1)

-- ---- one piece

-- all was answered, and of the answers so many bytes went out
breaks_written : (stream : List ℕ) (images images' : Images) (held held' : Option (List ℕ)) (requests replies : List Adu) (count : ℕ)
    → Starts adus stream requests → AnswersAll images requests replies images' → Appends held held' (take count (flat_map frame_of replies)) → Breaks stream images images' held held'
breaks_written stream images images' held held' requests replies count first answered written = record {
  requests = requests;
  replies = replies;
  output = take count (flat_map frame_of replies);
  first = first;
  answered = answered;
  prefix = (drop count (flat_map frame_of replies), take-append-drop count (flat_map frame_of replies));
  written = written;
}

-- some were answered, and nothing went out
breaks_silent : (stream : List ℕ) (images images' : Images) (held : Option (List ℕ)) (requests : List Adu) → Starts adus stream requests → AnswersSome images requests images' → Breaks stream images images' held held
breaks_silent stream images images' held requests first some =
    let parts : flat_map frame_of requests ≡ flat_map frame_of (take some.0 requests) ++ flat_map frame_of (drop some.0 requests) =
    ap (flat_map frame_of) (sym (take-append-drop some.0 requests)) ∙ flat_map-append frame_of (take some.0 requests) (drop some.0 requests) in
    record {
      requests = take some.0 requests;
      replies = some.1;
      output = [];
      first = record {
        rest = flat_map frame_of (drop some.0 requests) ++ first.rest;
        whole = first.whole ∙ (ap (λ (l : List ℕ). l ++ first.rest) parts ∙ append_assoc (flat_map frame_of (take some.0 requests)) (flat_map frame_of (drop some.0 requests)) first.rest);
        each = framed_take requests some.0 first.each;
      };
      answered = some.2;
      prefix = (flat_map frame_of some.1, refl);
      written = Appends-nil held;
    }

abbrev StartsAfter : Ending HeaderFault → List ℕ → List Adu → Type 0
StartsAfter (Rest bytes) piece requests = Starts adus (bytes ++ piece) requests
StartsAfter (Fault fault) piece requests = ⊥

took_starts : (bytes piece : List ℕ) (to : Ending HeaderFault) (out requests : List Adu) → out ≡ [] → Took adus (Rest bytes) piece to out requests → Starts adus (bytes ++ piece) requests
took_starts bytes piece to out requests none t =
    let added : requests ≡ t.items = t.added ∙ ap (λ (l : List Adu). l ++ t.items) none in
    subst (Starts adus (bytes ++ piece)) (sym added) (record { rest = t.fed.rest; whole = t.fed.whole; each = t.fed.each })

pub fed_starts : (result : Result (Unit {0}) SessionFault) (from to : Ending HeaderFault) (piece : List ℕ) (out requests : List Adu) → out ≡ [] → IsRest from → Feeding result from piece to out requests → StartsAfter from piece requests
fed_starts result (Fault fault) to piece out requests none rest fed = absurd rest
fed_starts (Ok done) (Rest bytes) to piece out requests none rest fed = took_starts bytes piece to out requests none fed.0
fed_starts (Err (faults.Header fault)) (Rest bytes) to piece out requests none rest fed = took_starts bytes piece to out requests none fed.0
fed_starts (Err faults.Memory) (Rest bytes) to piece out requests none rest fed =
    subst (Starts adus (bytes ++ piece)) (sym (fed.1 ∙ none)) (record { rest = bytes ++ piece; whole = refl; each = tt })

pub silent_after : (from : Ending HeaderFault) (piece : List ℕ) (images images' : Images) (held : Option (List ℕ)) (requests : List Adu) → StartsAfter from piece requests → AnswersSome images requests images' → BreaksAfter from piece images images' held held
silent_after (Rest bytes) piece images images' held requests first some = breaks_silent (bytes ++ piece) images images' held requests first some
silent_after (Fault fault) piece images images' held requests first some = absurd first

pub written_after : (from : Ending HeaderFault) (piece : List ℕ) (images images' : Images) (held held' : Option (List ℕ)) (requests : List Adu) (out out' : List ℕ) (n m : Requests) (count : ℕ)
    → StartsAfter from piece requests → out ≡ [] → Adds images requests out out' n m images' → Appends held held' (take count out') → BreaksAfter from piece images images' held held'
written_after (Rest bytes) piece images images' held held' requests out out' n m count first none t written =
    let sent : out' ≡ flat_map frame_of t.replies = t.added ∙ ap (λ (l : List ℕ). l ++ flat_map frame_of t.replies) none in
    breaks_written (bytes ++ piece) images images' held held' requests t.replies count first t.answered (subst (λ (l : List ℕ). Appends held held' (take count l)) sent written)
written_after (Fault fault) piece images images' held held' requests out out' n m count first none t written = absurd first

-- a call failed
pub on_err : {A E : Type 0} (P : Type 0) (r : Result A E) → P → OnErr r P
on_err P (Ok x) p = tt
on_err P (Err e) p = p

pub err_holds : {A E : Type 0} (P : Type 0) (r : Result A E) → is_err r ≡ true → OnErr r P → P
err_holds P (Ok x) e p = absurd cc
err_holds P (Err x) e p = p

pub ok_holds : {A E : Type 0} (P : Type 0) (r : Result A E) → is_err r ≡ false → OnOk r P → P
ok_holds P (Ok x) e p = p
ok_holds P (Err x) e p = absurd cc

-- ---- piece after piece

pub serves_none : (images : Images) (held : Option (List ℕ)) → Serves (Rest []) [] (Rest []) images images held held
serves_none images held = record {
  requests = [];
  replies = [];
  fed = record { rest = []; whole = refl; each = tt; ends = (refl, tt) };
  answered = refl;
  written = Appends-nil held;
}

frames_both : (as' bs : List Adu) → flat_map frame_of (as' ++ bs) ≡ flat_map frame_of as' ++ flat_map frame_of bs
frames_both as' bs = flat_map-append frame_of as' bs

-- a stream of which a piece more comes
goes_on : IsOneStream adus → (input piece : List ℕ) (items more : List Adu) (between to : Ending HeaderFault)
    → Splits adus input items between → Feeds adus between piece more to → Splits adus (input ++ piece) (items ++ more) to
goes_on one input piece items more between to fed fed' =
    let others : more ≡ more ++ [] = sym (append-nil more) in
    let stream : flat_map (λ (p : List ℕ). p) (input ∷ piece ∷ []) ≡ input ++ piece = flat_map-cons (λ (p : List ℕ). p) input (piece ∷ []) ∙ ap (λ (l : List ℕ). input ++ l) (flat_map-cons (λ (p : List ℕ). p) piece [] ∙ append-nil piece) in
    subst (λ (l : List ℕ). Splits adus l (items ++ more) to) stream
    (one.whole (input ∷ piece ∷ []) (items ++ more) to (items, more, between, fed, (more, [], to, fed', (refl, refl), others), refl))

pub serves_more : IsOneStream adus → (input piece : List ℕ) (between to : Ending HeaderFault) (a b c : Images) (h k m : Option (List ℕ))
    → Serves (Rest []) input between a b h k → Serves between piece to b c k m → Serves (Rest []) (input ++ piece) to a c h m
serves_more one input piece between to a b c h k m s t = record {
  requests = s.requests ++ t.requests;
  replies = s.replies ++ t.replies;
  fed = goes_on one input piece s.requests t.requests between to s.fed t.fed;
  answered = both_answered a b c s.requests t.requests s.replies t.replies s.answered t.answered;
  written = subst (Appends h m) (sym (frames_both s.replies t.replies)) (Appends-trans h k m (flat_map frame_of s.replies) (flat_map frame_of t.replies) s.written t.written);
}

all_both : (us vs : List Adu) → AllByRecursion IsFramed us → AllByRecursion IsFramed vs → AllByRecursion IsFramed (us ++ vs)
all_both [] vs all all' = all'
all_both (u ∷ us) vs all all' = (all.0, all_both us vs all.1 all')

breaks_rest : (input piece bytes : List ℕ) (a b c : Images) (h k m : Option (List ℕ))
    → Serves (Rest []) input (Rest bytes) a b h k → Breaks (bytes ++ piece) b c k m → Breaks (input ++ piece) a c h m
breaks_rest input piece bytes a b c h k m s t =
    let front : List ℕ = flat_map frame_of s.requests in
    let sent : List ℕ = flat_map frame_of s.replies in
    let kept : s.fed.rest ≡ bytes = s.fed.ends.0 in
    let whole : input ++ piece ≡ front ++ (bytes ++ piece) = ap (λ (l : List ℕ). l ++ piece) (s.fed.whole ∙ ap (λ (l : List ℕ). front ++ l) kept) ∙ append_assoc front bytes piece in
    let more : front ++ (bytes ++ piece) ≡ flat_map frame_of (s.requests ++ t.requests) ++ t.first.rest =
    ap (λ (l : List ℕ). front ++ l) t.first.whole ∙ (sym (append_assoc front (flat_map frame_of t.requests) t.first.rest) ∙ ap (λ (l : List ℕ). l ++ t.first.rest) (sym (frames_both s.requests t.requests))) in
    record {
      requests = s.requests ++ t.requests;
      replies = s.replies ++ t.replies;
      output = sent ++ t.output;
      first = record { rest = t.first.rest; whole = whole ∙ more; each = all_both s.requests t.requests s.fed.each t.first.each };
      answered = both_answered a b c s.requests t.requests s.replies t.replies s.answered t.answered;
      prefix = (t.prefix.0, append_assoc sent t.output t.prefix.0 ∙ (ap (λ (l : List ℕ). sent ++ l) t.prefix.1 ∙ sym (frames_both s.replies t.replies)));
      written = Appends-trans h k m sent t.output s.written t.written;
    }

pub breaks_more : (input piece : List ℕ) (between : Ending HeaderFault) (a b c : Images) (h k m : Option (List ℕ))
    → Serves (Rest []) input between a b h k → BreaksAfter between piece b c k m → Breaks (input ++ piece) a c h m
breaks_more input piece (Rest bytes) a b c h k m s t = breaks_rest input piece bytes a b c h k m s t
breaks_more input piece (Fault fault) a b c h k m s t = absurd t

-- what was served is a break, too
pub serves_breaks : (input : List ℕ) (to : Ending HeaderFault) (a b : Images) (h k : Option (List ℕ)) → Serves (Rest []) input to a b h k → Breaks input a b h k
serves_breaks input to a b h k s = record {
  requests = s.requests;
  replies = s.replies;
  output = flat_map frame_of s.replies;
  first = record { rest = s.fed.rest; whole = s.fed.whole; each = s.fed.each };
  answered = s.answered;
  prefix = ([], append-nil (flat_map frame_of s.replies));
  written = s.written;
}

le_cases : (w v : ℕ) → w ≤ v → (w ≡ v) ⊎ (w < v)
le_cases w v h = grind arith

-- a failure in a later call
pub failed_later : (w v w' : ℕ) → w ≤ v → v ≤ w' → Failed v w' → Failed w w'
failed_later w v w' low high (inl h) = inl (omega arith)
failed_later w v w' low high (inr h) = elim (le_cases w v low) [ inl e ↦ inr (e ∙ h) | inr l ↦ inl (omega arith) ]

-- a session that goes on
pub record IsServed (left left' : Option (List ℕ)) (r r' : ℕ) (held held' : Option (List ℕ)) (w w' : ℕ) (images images' : Images) (to : Ending HeaderFault) : Type 0 where
  pub input : List ℕ
  pub read : Consumes left left' input
  pub served : Serves (Rest []) input to images images' held held'
  pub rest : IsRest to
  pub reads : r ≤ r'
  pub writes : w ≤ w'

pub served_none : (left held : Option (List ℕ)) (r w : ℕ) (images : Images) → IsServed left left r r held held w w images images (Rest [])
served_none left held r w images = record {
  input = [];
  read = Consumes-nil left;
  served = serves_none images held;
  rest = tt;
  reads = omega arith;
  writes = omega arith;
}

-- a session goes on by one piece
pub goes_further : IsOneStream adus → (left left1 left2 : Option (List ℕ)) (r r1 r2 : ℕ) (held held1 held2 : Option (List ℕ)) (w w1 w2 : ℕ) (images images1 images2 : Images) (between to : Ending HeaderFault) (piece : List ℕ)
    → IsServed left left1 r r1 held held1 w w1 images images1 between → Consumes left1 left2 piece → r1 ≤ r2 → Serves between piece to images1 images2 held1 held2 → IsRest to → w1 ≤ w2
    → IsServed left left2 r r2 held held2 w w2 images images2 to
goes_further one left left1 left2 r r1 r2 held held1 held2 w w1 w2 images images1 images2 between to piece s read reads serves rest writes = record {
  input = s.input ++ piece;
  read = Consumes-trans left left1 left2 s.input piece s.read read;
  served = serves_more one s.input piece between to images images1 images2 held held1 held2 s.served serves;
  rest = rest;
  reads = omega (arith, s.reads, reads);
  writes = omega (arith, s.writes, writes);
}

-- a session ends over one piece
pub ends_with : IsOneStream adus → (end : SessionEnd) (left left1 left2 : Option (List ℕ)) (r r1 r2 : ℕ) (held held1 held2 : Option (List ℕ)) (w w1 w2 : ℕ) (images images1 images2 : Images) (between : Ending HeaderFault) (piece : List ℕ)
    → IsServed left left1 r r1 held held1 w w1 images images1 between → Consumes left1 left2 piece → Stops end between piece (Failed w1 w2) images1 images2 held1 held2 → w1 ≤ w2
    → Talks end left left2 r r2 held held2 w w2 images images2
ends_with one ends.Closed left left1 left2 r r1 r2 held held1 held2 w w1 w2 images images1 images2 between piece s read stops writes = absurd stops
ends_with one (ends.Header fault) left left1 left2 r r1 r2 held held1 held2 w w1 w2 images images1 images2 between piece s read stops writes = record {
  input = s.input ++ piece;
  read = Consumes-trans left left1 left2 s.input piece s.read read;
  ended = serves_more one s.input piece between (Fault fault) images images1 images2 held held1 held2 s.served stops;
}
ends_with one ends.Memory left left1 left2 r r1 r2 held held1 held2 w w1 w2 images images1 images2 between piece s read stops writes = record {
  input = s.input ++ piece;
  read = Consumes-trans left left1 left2 s.input piece s.read read;
  ended = breaks_more s.input piece between images images1 images2 held held1 held2 s.served stops;
}
ends_with one ends.Device left left1 left2 r r1 r2 held held1 held2 w w1 w2 images images1 images2 between piece s read stops writes = record {
  input = s.input ++ piece;
  read = Consumes-trans left left1 left2 s.input piece s.read read;
  ended = (inr (failed_later w w1 w2 s.writes writes stops.0), breaks_more s.input piece between images images1 images2 held held1 held2 s.served stops.1);
}

-- its reader fails
pub ends_unread : (left left1 left2 : Option (List ℕ)) (r r1 r2 : ℕ) (held held1 : Option (List ℕ)) (w w1 : ℕ) (images images1 : Images) (between : Ending HeaderFault)
    → IsServed left left1 r r1 held held1 w w1 images images1 between → Keeps left1 left2 → Failed r1 r2 → r1 ≤ r2 → Talks ends.Device left left2 r r2 held held1 w w1 images images1
ends_unread left left1 left2 r r1 r2 held held1 w w1 images images1 between s read failed reads = record {
  input = s.input;
  read = Consumes-kept left left1 left2 s.input s.read read;
  ended = (inl (failed_later r r1 r2 s.reads reads failed), serves_breaks s.input between images images1 held held1 s.served);
}
