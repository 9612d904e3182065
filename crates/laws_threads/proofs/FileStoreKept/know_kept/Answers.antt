use Rattle.laws_threads.proofs.FileKept.{loads, load_failed, saves, save_failed, begins, begin_failed}
use Rattle.laws_threads.proofs.FileStoreKept.know_kept.Goals as goal

pub returns : goal.returns
returns g c = record {
  loads = λ s t k stored holds l. loads s.held t.held k stored holds l.0;
  load_failed = λ s t k holds l. load_failed s.held t.held k holds l.0;
  saves = λ s t k view holds l. saves s.held t.held view l.0;
  save_failed = λ s t k view holds l. save_failed s.held t.held k view holds l.0;
  begins = λ s t k stored holds b. begins s.held t.held k stored holds b.0;
  begin_failed = λ s t k holds b. begin_failed s.held t.held k holds b.0;
  more = λ s k l holds sub v may. sub v.view (holds v may);
}
