use Rattle.laws_processes.proofs.Files.{left_by, counts}
use Rattle.laws_processes.proofs.failed_starts_leave_the_file.Goals as goal

pub returns-clause-views : goal.returns-clause-views
returns-clause-views g c = λ seat before behind left stored file count either. left_by g.S.Kept.holds seat before behind left stored file count either

pub returns-clause-counts : goal.returns-clause-counts
returns-clause-counts g c = λ before behind left stored counted least count either. counts before behind left stored counted least count either
