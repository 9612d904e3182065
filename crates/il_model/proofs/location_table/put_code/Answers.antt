use Rattle.std.proofs.lemmas.Result.{on_ok_weaker}
use Rattle.il_model.proofs.LocationTables.{put_code, keep_codes}
use Rattle.il_model.proofs.location_table.put_code.Goals as goal

pub returns-in-Some : goal.returns-in-Some
returns-in-Some c =
    on_ok_weaker c.put_parts.result (put_code c.args.codes.now c.put_parts.new.codes c.args.seen.now c.args.v.now c.in-Some.loc c.requires c.in-Some.is) c.put_parts.ensures

pub returns-in-None : goal.returns-in-None
returns-in-None c = keep_codes c.args.codes.now c.args.seen.now c.args.v.now c.requires c.in-None.is
