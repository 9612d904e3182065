use Rattle.std.proofs.Common.{◌≡◌, Some, refl}
use Rattle.vr_threads.specs.Keeping.{Loads}
use Rattle.laws_threads.proofs.Opened.{counted, first_counted}
use Rattle.laws_threads.proofs.opened_stores_start_knowing.Goals as goal

pub returns-clause-threads : goal.returns-clause-threads
returns-clause-threads g c = λ had was stored found left may b is. record {
  knowing = record found { store = record found.store { held = had } };
  starts = (counted found.store.held had left.store.held was stored may is b.0, b.1);
  knows = λ k holds. holds;
}

pub returns-clause-machines : goal.returns-clause-machines
returns-clause-machines g c = λ had was stored found left may none b is.
    let file = found.store.store.store in
    let after = left.store.store.store in
    let n = b.0.0.0 in (
      record {
        knowing = record found { store = record found.store { store = record found.store.store { store = record file { held = had } } } };
        starts = ((((n.0, first_counted file.held had after.held was n.0 file.writes after.writes found.store.started (Loads file.held (Some n.0) after.held × (after.writes ≡ file.writes)) (Loads had (Some n.0) after.held × (after.writes ≡ file.writes)) may is none n.1, n.2, n.3), b.0.0.1), b.0.1), b.1);
        knows = λ k holds. holds;
      },
      refl,
    )
