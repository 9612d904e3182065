use Rattle.laws_threads.proofs.NumberedKept.{begun, not_begun}
use Rattle.laws_threads.proofs.NumberedStartsKept.know_kept.Goals as goal

pub returns : goal.returns
returns g c = record {
  loads = λ s t k stored holds l. c.know_kept.ensures.loads s.store t.store k stored holds l.0;
  load_failed = λ s t k holds l. c.know_kept.ensures.load_failed s.store t.store k holds l.0;
  saves = λ s t k view holds l. c.know_kept.ensures.saves s.store t.store k view holds l.0;
  save_failed = λ s t k view holds l. c.know_kept.ensures.save_failed s.store t.store k view holds l.0;
  begins = λ s t k stored holds b.
      begun g.T.ViewStore.load_gives g.T.ViewStore.save_gives g.T.Starts.begin_gives g.T.Kept.holds c.know_kept.ensures s.started s.store t.store k stored holds b.0;
  begin_failed = λ s t k holds b.
      not_begun g.T.ViewStore.load_gives g.T.ViewStore.save_gives g.T.Starts.begin_gives g.T.Kept.holds c.know_kept.ensures s.started s.store t.store k holds b.0;
  more = λ s k l holds sub. c.know_kept.ensures.more s.store k l holds sub;
}
