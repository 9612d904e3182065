use Rattle.laws_threads.proofs.PatientKept.{made_at_last, failed_at_last}
use Rattle.laws_threads.proofs.PatientStoreKept.know_kept.Goals as goal

pub returns : goal.returns
returns g c = record {
  loads = λ s t k stored holds l. c.know_kept.ensures.loads s.store t.store k stored holds l;
  load_failed = λ s t k holds l. c.know_kept.ensures.load_failed s.store t.store k holds l;
  saves = λ s t k view holds b.
      made_at_last g.T.ViewStore.load_gives g.T.ViewStore.save_gives g.T.Starts.begin_gives g.T.Kept.holds c.know_kept.ensures b.0 s.store t.store k view holds b.1;
  save_failed = λ s t k view holds b.
      failed_at_last g.T.ViewStore.load_gives g.T.ViewStore.save_gives g.T.Starts.begin_gives g.T.Kept.holds c.know_kept.ensures b.0 s.store t.store k view holds b.1;
  begins = λ s t k stored holds b. c.know_kept.ensures.begins s.store t.store k stored holds b;
  begin_failed = λ s t k holds b. c.know_kept.ensures.begin_failed s.store t.store k holds b;
  more = λ s k l holds sub. c.know_kept.ensures.more s.store k l holds sub;
}
