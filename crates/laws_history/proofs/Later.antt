-- What was said stays true.
use Rattle.std.proofs.Common.{slice_get, subst, Some, zero, suc, ◌≡◌, ℕ, ◌+◌, ◌≤◌, List, [], ◌∷◌, ◌++◌, length, take, arith, refl, sym, ap, ◌∙◌}
use Rattle.std.proofs.lemmas.Grind.{common_steps}
use Rattle.std.proofs.lemmas.Bool.{leb-true, le-leb}
use Rattle.vr_model.specs.Logs.{Request, IsPrefix, IsEntry, IsAmong}
use Rattle.vr_model.specs.Groups.{group_size}
use Rattle.laws_history.proofs.History.{History, IsChosen, holds, IsSound, Grows, Leaves}
use Rattle.vr_model.specs.Messages.{RecoveryResponse, number_of, Body, RequestMessage, Prepare, PrepareOk, Commit, Reply, StartViewChange, DoViewChangeMessage, StartView, Recovery, RecoveryResponseMessage, GetState, NewState, Message}
use Rattle.vr_model.specs.Replicas.{ReplicaState}
use Rattle.vr_model.specs.Choices.{commands}
use Rattle.laws_history.proofs.Facts.{IsCommitted, IsLogOf, ResponseOk, DoViewChangeSays, Says, AllSay, Stands, ReplicaOk, Apart}
use Rattle.laws_history.proofs.Counts.{fewer, some_member}
use Rattle.laws_history.proofs.Prefixes.{prefix_length, prefix_take, prefix_trans}

pub grows_refl : {X : Type 0} (h : History X) → Grows h h
grows_refl h = record {
  log = λ v. record { rest = []; is = grind (arith, common_steps) };
  started = λ v e. e;
  first = λ v e. refl;
  accepted = λ r v. omega arith;
  promised = λ r. omega arith;
  left = λ r. omega arith;
  asked = record { rest = []; is = grind (arith, common_steps) };
  done = omega arith;
  used = λ r x e. e;
  held = λ r x v e. refl;
  frozen = λ r v l. refl;
}

pub apart_refl : {X : Type 0} (f : ℕ) (h : History X) (j : ℕ) → Apart f h h j
apart_refl f h j = record { accepted = λ v. refl; promised = refl; log = λ v e. refl; started = λ v e. refl }

chosen_later : {X : Type 0} (f : ℕ) {h g : History X} (v n : ℕ) → Grows h g → IsChosen f h v n → IsChosen f g v n
chosen_later f {h} {g} v n grows c =
    omega (
      arith,
      c,
      fewer (holds h v n) (holds g v n) (group_size f) (λ r l e.
          le-leb n (g.accepted r v) (let k : n ≤ h.accepted r v = leb-true _ _ e in omega (arith, grows.accepted r v))),
    )

-- a quorum has a member, so what is chosen is there
pub chosen_within : {X : Type 0} (f : ℕ) (h : History X) (v n : ℕ) → IsSound f h → IsChosen f h v n → n ≤ length (h.log v)
chosen_within f h v n sound c =
    let s = some_member (holds h v n) (group_size f) (omega (arith, c)) in
    let k : n ≤ h.accepted s.0 v = leb-true _ _ s.2 in
    omega (arith, sound.accepted_within s.0 v)

pub committed_later : {X : Type 0} (f : ℕ) {h g : History X} (v k : ℕ) → IsSound f h → Grows h g → IsCommitted f h v k → IsCommitted f g v k
committed_later f {h} {g} v k sound grows c = record {
  within = omega (arith, c.within, prefix_length (grows.log v));
  since = c.since;
  upto = c.upto;
  chosen = chosen_later f c.since k grows c.chosen;
  same = prefix_take k (grows.log v) c.within ∙ c.same ∙ sym (prefix_take k (grows.log c.since) (chosen_within f h c.since k sound c.chosen));
}

pub log_later : {X : Type 0} {h g : History X} {v : ℕ} {log : List X} → Grows h g → IsLogOf h v log → IsLogOf g v log
log_later {X} {h} {g} {v} {log} grows l = record {
  started = grows.started v l.started;
  within = prefix_trans l.within (grows.log v);
  whole = omega (arith, l.whole, grows.first v l.started);
}

leaves_later : {X : Type 0} {h g : History X} {s u last : ℕ} {log : List X} → Grows h g → Leaves h s u last log → Leaves g s u last log
leaves_later {X} {h} {g} {s} {u} {last} {log} grows l = record {
  promised = omega (arith, l.promised, grows.promised s);
  below = l.below;
  started = grows.started last l.started;
  log = prefix_trans l.log (grows.log last);
  whole = omega (arith, l.whole, grows.first last l.started);
  covers = omega (arith, l.covers, grows.frozen s last (omega (arith, l.below, l.promised)));
  later = λ v a b. grows.frozen s v (omega (arith, l.promised)) ∙ l.later v a b;
}

pub do_view_change_later : {X : Type 0} (f : ℕ) {h g : History X} {s u last c : ℕ} {log : List X} → IsSound f h → Grows h g → DoViewChangeSays f h s u last c log → DoViewChangeSays f g s u last c log
do_view_change_later f {h} {g} {s} {u} {last} {c} sound grows v = record { leaves = leaves_later grows v.leaves; commit = committed_later f last c sound grows v.commit; executed = v.executed }

pub entry_later : {X : Type 0} {xs ys : List X} {place : ℕ} {m : X} → IsPrefix xs ys → IsEntry xs place m → IsEntry ys place m
entry_later {X} {xs} {ys} {place} {m} p e = record {
  within = omega (arith, e.within, prefix_length p);
  last = prefix_take (place + 1) p (omega (arith, e.within)) ∙ e.last ∙ ap (λ a. a ++ m ∷ []) (sym (prefix_take place p (omega (arith, e.within))));
}

pub among_later : {X : Type 0} {xs ys : List X} {m : X} → IsPrefix xs ys → IsAmong xs m → IsAmong ys m
among_later {X} {xs} {ys} {m} p a = record { place = a.place; is = subst (λ zs. slice_get zs a.place ≡ Some m) p.is (front xs p.rest a.place m a.is) }
  where
    front : {X : Type 0} (xs rest : List X) (n : ℕ) (m : X) → slice_get xs n ≡ Some m → slice_get (xs ++ rest) n ≡ Some m
    front [] rest n m e = absurd cc
    front (x ∷ xs) rest zero m e = e
    front (x ∷ xs) rest (suc n) m e = front xs rest n m e

response_later : {C : Type 0} (f : ℕ) {h g : History (Request C)} {j x s : ℕ} {a : RecoveryResponse C} → Grows h g → IsSound f h → ResponseOk f h j x s a → ResponseOk f g j x s a
response_later f {h} {g} {j} {x} {s} {a} grows sound ok v e = let k = ok v e in record {
  leads = k.leads;
  log = log_later grows k.log;
  commit = committed_later f a.view v.commit_number sound grows k.commit;
  used = grows.used j x k.used;
  fresh = omega (arith, k.fresh, grows.held j x a.view k.used);
}

pub says_later : {C A : Type 0} (f : ℕ) (answer : List C → A) (h g : History (Request C)) (s t : ℕ) (body : Body C A) → IsSound f h → Grows h g → Says f answer h s t body → Says f answer g s t body
says_later f answer h g s t (RequestMessage m) sound grows says = among_later grows.asked says
says_later f answer h g s t (Prepare v m p c) sound grows says = record {
  started = grows.started v says.started;
  entry = entry_later (grows.log v) says.entry;
  above = says.above;
  commit = committed_later f v c sound grows says.commit;
}
says_later f answer h g s t (PrepareOk v p) sound grows says = omega (arith, says, grows.accepted s v)
says_later f answer h g s t (Commit v c) sound grows says = committed_later f v c sound grows says
says_later f answer h g s t (Reply v n a) sound grows says = let w = says.view in record {
  view = says.view;
  place = says.place;
  request = says.request;
  commit = committed_later f says.view (says.place + 1) sound grows says.commit;
  entry = entry_later (grows.log says.view) says.entry;
  done = omega (arith, says.done, grows.done);
  client_is = says.client_is;
  number_is = says.number_is;
  answer_is = says.answer_is ∙ ap (λ log. answer (commands log)) (sym (prefix_take (says.place + 1) (grows.log says.view) says.commit.within));
}
says_later f answer h g s t (StartViewChange v) sound grows says = tt
says_later f answer h g s t (DoViewChangeMessage u a) sound grows says = (do_view_change_later f sound grows says.0, omega (arith, says.1, grows.left s))
says_later f answer h g s t (StartView v c log) sound grows says = record { leads = says.leads; log = log_later grows says.log; first = grows.first v (let l = says.log in l.started) ∙ says.first; commit = committed_later f v c sound grows says.commit }
says_later f answer h g s t (Recovery x w) sound grows says = grows.used s x says
says_later f answer h g s t (RecoveryResponseMessage x a) sound grows says = response_later f grows sound says
says_later f answer h g s t (GetState v p) sound grows says = tt
says_later f answer h g s t (NewState v p c log) sound grows says = record {
  log = let e : take p (g.log v) ≡ take p (h.log v) = prefix_take p (grows.log v) says.place in rw e (log_later grows says.log);
  place = omega (arith, says.place, prefix_length (grows.log v));
  commit = committed_later f v c sound grows says.commit;
}

pub all_say_later : {C A : Type 0} (f : ℕ) (answer : List C → A) (h g : History (Request C)) (ms : List (Message C A)) → IsSound f h → Grows h g → AllSay f answer h ms → AllSay f answer g ms
all_say_later f answer h g [] sound grows all = tt
all_say_later f answer h g (m ∷ ms) sound grows all = (says_later f answer h g (number_of m.from) (number_of m.to) m.body sound grows all.0, all_say_later f answer h g ms sound grows all.1)

stands_later : {X : Type 0} (f : ℕ) {h g : History X} {i v k : ℕ} {log : List X} → IsSound f h → Grows h g → g.accepted i v ≡ h.accepted i v → Stands f h i v k log → Stands f g i v k log
stands_later f {h} {g} {i} {v} {k} sound grows same s = record { log = log_later grows s.log; accepted = same ∙ s.accepted; commit = committed_later f v k sound grows s.commit; executed = s.executed }

pub replica_later : {C : Type 0} (f : ℕ) (h g : History (Request C)) (j : ℕ) (r : ReplicaState C) → IsSound f h → Grows h g → Apart f h g j → ReplicaOk f h j r → ReplicaOk f g j r
replica_later f h g j r sound grows apart ok = record {
  up = ok.up;
  normal = λ e. let n = ok.normal e in record {
    stands = stands_later f sound grows (apart.accepted r.view) n.stands;
    last = n.last;
    promised = apart.promised ∙ n.promised;
    stored = n.stored;
    leads = λ l. n.leads l ∙ sym (apart.log r.view l);
    acknowledged = λ l s. omega (arith, n.acknowledged l s, grows.accepted s r.view);
  };
  view_change = λ e. let n = ok.view_change e in record {
    stands = stands_later f sound grows (apart.accepted r.last_normal_view) n.stands;
    below = n.below;
    promised = apart.promised ∙ n.promised;
    stored = n.stored;
    later = λ v l. apart.accepted v ∙ n.later v l;
    unstarted = λ l. apart.started r.view l ∙ n.unstarted l;
    sent_do_view_change = λ e2 ne. omega (arith, n.sent_do_view_change e2 ne, grows.left j);
    left = λ s a e2 ne. omega (arith, n.left s a e2 ne, grows.left s);
    do_view_changes = λ s a e2. do_view_change_later f sound grows (n.do_view_changes s a e2);
  };
  recovering = λ e. let n = ok.recovering e in record {
    empty = n.empty;
    commit = n.commit;
    promised = omega (arith, n.promised, apart.promised);
    used = grows.used j r.nonce n.used;
    held = λ v. grows.held j r.nonce v n.used ∙ n.held v ∙ sym (apart.accepted v);
    own = n.own;
    responses = λ s a e2. response_later f grows sound (n.responses s a e2);
  };
}
