use Rattle.plc_store.proofs.Marks.{image_of}
use Rattle.plc_store.proofs.laws.a_mark_has_its_image.Goals as goal

pub returns : goal.returns
returns c = image_of
