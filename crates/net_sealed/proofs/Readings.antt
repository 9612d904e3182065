-- Records that are opened one after the other.
use Rattle.std.proofs.Common.{◌≡◌, ℕ, ◌+◌, ◌*◌, ◌≤◌, List, [], ◌∷◌, ◌++◌, length, take, refl, sym, ap, subst, ◌∙◌, append_assoc, arith}
use Rattle.std.specs.Prelude.{Option, Err}
use Rattle.std.specs.Io.KnownBytes.{Keeps}
use Rattle.std.proofs.KnownBytes.{Consumes-nil, Consumes-trans, Consumes-kept}
use Rattle.std.proofs.lemmas.List.{append-nil}
use Rattle.net_ends.specs.declared.non_blocking.Stop.{Stop}
use Rattle.net_ends.specs.declared.non_blocking.Stop.TheVariants.{ForNow, ForGood}
use Rattle.net_keys.specs.declared.sealing.Side.{Side}
use Rattle.net_keys.specs.declared.sealing.Opener.{Opener}
use Rattle.net_keys.specs.Forging.{AreOpened}
use Rattle.net_sealed.specs.Coming.{Coming, Fills, Gives, HasRead, OpensNext, Reads, StandFirst, bodies_in}

opened_append : (key : List ℕ) (side : Side) (number : ℕ) (xs ys : List (List ℕ × List ℕ)) → AreOpened key side number xs → AreOpened key side (number + length xs) ys → AreOpened key side number (xs ++ ys)
opened_append key side number [] ys p q = subst (λ (n : ℕ). AreOpened key side n ys) (let e : number + 0 ≡ number = omega arith in e) q
opened_append key side number ((body, sum) ∷ xs) ys p q =
    (p.0, opened_append key side (number + 1) xs ys p.1 (subst (λ (n : ℕ). AreOpened key side n ys) (let e : number + length ((body, sum) ∷ xs) ≡ number + 1 + length xs = omega arith in e) q))

bodies_append : (xs ys : List (List ℕ × List ℕ)) → bodies_in (xs ++ ys) ≡ bodies_in xs ++ bodies_in ys
bodies_append [] ys = refl
bodies_append ((body, sum) ∷ xs) ys = ap (λ (t : List ℕ). body ++ t) (bodies_append xs ys) ∙ sym (append_assoc body (bodies_in xs) (bodies_in ys))

length_append : (xs ys : List (List ℕ × List ℕ)) → length (xs ++ ys) ≡ length xs + length ys
length_append [] ys = let e : length ys ≡ 0 + length ys = omega arith in e
length_append (x ∷ xs) ys = let rest = length_append xs ys in omega (arith, rest)

-- ---- where they stand

stand_wider : (bytes more : List ℕ) (records : List (List ℕ × List ℕ)) (rest : List ℕ) → StandFirst bytes records rest → StandFirst (bytes ++ more) records (rest ++ more)
stand_wider bytes more [] rest p = ap (λ (t : List ℕ). t ++ more) p
stand_wider bytes more ((body, sum) ∷ records) rest (high, low, behind, is, long, p) =
    let all : bytes ++ more ≡ high ∷ low ∷ (body ++ (sum ++ (behind ++ more))) =
    ap (λ (t : List ℕ). t ++ more) is ∙ ap (λ (t : List ℕ). high ∷ low ∷ t) (append_assoc body (sum ++ behind) more ∙ ap (λ (t : List ℕ). body ++ t) (append_assoc sum behind more)) in
    (high, low, behind ++ more, all, long, stand_wider behind more records rest p)

stand_append : (bytes : List ℕ) (xs ys : List (List ℕ × List ℕ)) (mid rest : List ℕ) → StandFirst bytes xs mid → StandFirst mid ys rest → StandFirst bytes (xs ++ ys) rest
stand_append bytes [] ys mid rest p q = subst (λ (t : List ℕ). StandFirst t ys rest) (sym p) q
stand_append bytes ((body, sum) ∷ xs) ys mid rest (high, low, behind, is, long, p) q = (high, low, behind, is, long, stand_append behind xs ys mid rest p q)

-- ---- what was read

pub fills_none : (left left' : Option (List ℕ)) (before after : Coming) → Keeps left left' → after.waiting ≡ before.waiting → Fills left left' before after
fills_none left left' before after kept same = record {
  came = [];
  read = Consumes-kept left left left' [] (Consumes-nil left) kept;
  waiting = same ∙ sym (append-nil before.waiting);
}

-- bytes were, and nothing was opened
pub reads_filled : (left left' : Option (List ℕ)) (before after : Coming) → Fills left left' before after → after.opener ≡ before.opener → after.opened ≡ [] → before.opened ≡ [] → Reads left left' before after []
reads_filled left left' before after p same none' none = record {
  came = p.came;
  read = p.read;
  records = [];
  stand = sym p.waiting;
  opened = tt;
  bodies = append-nil before.opened ∙ (none ∙ sym none');
  key = ap (λ (o : Opener). o.key) same;
  side = ap (λ (o : Opener). o.side) same;
  next = let e = ap (λ (o : Opener). o.next) same in omega (arith, e);
}

-- nothing was
pub reads_nothing : (left : Option (List ℕ)) (coming : Coming) → Reads left left coming coming []
reads_nothing left coming = record {
  came = [];
  read = Consumes-nil left;
  records = [];
  stand = append-nil coming.waiting;
  opened = tt;
  bodies = append-nil coming.opened;
  key = refl;
  side = refl;
  next = let e : coming.opener.next ≡ coming.opener.next + 0 = omega arith in e;
}

-- a record was opened
pub reads_next : (left : Option (List ℕ)) (before after : Coming) → OpensNext before after → before.opened ≡ [] → Reads left left before after []
reads_next left before after p none = record {
  came = [];
  read = Consumes-nil left;
  records = (after.opened, p.sum) ∷ [];
  stand = (p.high, p.low, after.waiting, append-nil before.waiting ∙ p.front, p.length_is, refl);
  opened = (p.opens.sum_is, tt);
  bodies = ap (λ (t : List ℕ). t ++ (after.opened ++ [])) none ∙ append-nil after.opened;
  key = ap (λ (o : Opener). o.key) p.opens.after_is;
  side = ap (λ (o : Opener). o.side) p.opens.after_is;
  next = ap (λ (o : Opener). o.next) p.opens.after_is;
}

-- bytes were given of what was opened
pub reads_given : (left : Option (List ℕ)) (before after : Coming) (given : List ℕ) → Gives before after given → Reads left left before after given
reads_given left before after given p = record {
  came = [];
  read = Consumes-nil left;
  records = [];
  stand = append-nil before.waiting ∙ sym p.waiting;
  opened = tt;
  bodies = append-nil before.opened ∙ p.front;
  key = ap (λ (o : Opener). o.key) p.opener;
  side = ap (λ (o : Opener). o.side) p.opener;
  next = let e = ap (λ (o : Opener). o.next) p.opener in omega (arith, e);
}

pub reads_more : (first second third : Option (List ℕ)) (before between after : Coming) (given more : List ℕ) → Reads first second before between given → Reads second third between after more → Reads first third before after (given ++ more)
reads_more first second third before between after given more p q =
    let opened = subst (λ (k : List ℕ). AreOpened k before.opener.side (before.opener.next + length p.records) q.records) p.key
    (subst (λ (s : Side). AreOpened between.opener.key s (before.opener.next + length p.records) q.records) p.side
    (subst (λ (n : ℕ). AreOpened between.opener.key between.opener.side n q.records) p.next q.opened)) in
    let whole = ap (λ (t : List ℕ). before.opened ++ t) (bodies_append p.records q.records) in
    let apart = sym (append_assoc before.opened (bodies_in p.records) (bodies_in q.records)) in
    let one = ap (λ (t : List ℕ). t ++ bodies_in q.records) p.bodies in
    let two = append_assoc given between.opened (bodies_in q.records) ∙ ap (λ (t : List ℕ). given ++ t) q.bodies in
    let front : StandFirst (before.waiting ++ (p.came ++ q.came)) p.records (between.waiting ++ q.came) =
    subst (λ (t : List ℕ). StandFirst t p.records (between.waiting ++ q.came)) (append_assoc before.waiting p.came q.came) (stand_wider (before.waiting ++ p.came) q.came p.records between.waiting p.stand) in
    record {
      came = p.came ++ q.came;
      read = Consumes-trans first second third p.came q.came p.read q.read;
      records = p.records ++ q.records;
      stand = stand_append (before.waiting ++ (p.came ++ q.came)) p.records q.records (between.waiting ++ q.came) after.waiting front q.stand;
      opened = opened_append before.opener.key before.opener.side before.opener.next p.records q.records p.opened opened;
      bodies = whole ∙ (apart ∙ (one ∙ (two ∙ sym (append_assoc given more after.opened))));
      key = q.key ∙ p.key;
      side = q.side ∙ p.side;
      next = let all = length_append p.records q.records in omega (arith, p.next, q.next, all);
    }

-- none of it were, and then nothing was given
pub reads_blank : (first second third : Option (List ℕ)) (start before between after : Coming) (out : List ℕ) (count : ℕ) → Reads first second start before [] → Gives before between (take count out) → count ≤ 0 → Reads second third between after [] → Reads first third start after []
reads_blank first second third start before between after out count p q le r =
    let none : count ≡ 0 = omega arith in
    let q' : Gives before between [] = subst (λ (n : ℕ). Gives before between (take n out)) none q in
    reads_more first second third start before after [] [] p (reads_more second second third before between after [] [] (reads_given second before between [] q') r)

-- or it stopped
pub stops_blank : (A B : Type 0) (stop : Stop) (first second third : Option (List ℕ)) (start before between after : Coming) (out : List ℕ) (count : ℕ) → Reads first second start before [] → Gives before between (take count out) → count ≤ 0
    → HasRead {A = A} (Err stop) second third between after [] → HasRead {A = B} (Err stop) first third start after []
stops_blank A B ForNow first second third start before between after out count p q le r = reads_blank first second third start before between after out count p q le r
stops_blank A B ForGood first second third start before between after out count p q le r = refl
