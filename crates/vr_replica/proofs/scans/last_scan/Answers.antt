use Rattle.std.proofs.Common.{◌≡◌, ◌<◌, length, drop, ap, sym, ◌∙◌, arith}
use Rattle.std.proofs.lemmas.List.{drop_all}
use Rattle.vr_model.specs.Checkpoints.{requests_of}
use Rattle.vr_replica.specs.Scans.{last_scan_of}
use Rattle.vr_replica.proofs.LastScan.{none_here, last_here}
use Rattle.vr_replica.proofs.scans.last_scan.Goals as goal

pub loop-n-init : goal.loop-n-init
loop-n-init c = record {
  within = omega arith;
  none = ap (λ es. last_scan_of (requests_of es)) (drop_all (length c.args.entries.now) c.args.entries.now (omega arith));
}

pub loop-n-preserved : goal.loop-n-preserved
loop-n-preserved c =
    let above : 0 < c.loop-n.n = omega (arith, c.loop-n-test.true) in
    record {
      within = omega arith;
      none = none_here c.args.entries.now c.loop-n.n c.index-entries-n.result c.scan_in-scan.result above c.loop-n.invariant.within c.scan_in-scan.ensures c.loop-n.invariant.none
          (sym c.is_some.ensures ∙ c.if-is_some.false);
    }

pub returns-then-is_some : goal.returns-then-is_some
returns-then-is_some c =
    let above : 0 < c.loop-n.n = omega (arith, c.loop-n-test.true) in
    last_here c.args.entries.now c.loop-n.n c.index-entries-n.result c.scan_in-scan.result above c.loop-n.invariant.within c.scan_in-scan.ensures c.loop-n.invariant.none
    (sym c.is_some.ensures ∙ c.if-is_some.true)

pub returns : goal.returns
returns c =
    let end : c.loop-n.n ≡ 0 = omega (arith, c.loop-n-test.false) in
    sym (ap (λ k. last_scan_of (requests_of (drop k c.args.entries.now))) (sym end) ∙ c.loop-n.invariant.none)
