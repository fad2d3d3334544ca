use Rattle.st_engine.proofs.Counts.{count-done, count-exact, count-refused}
use Rattle.st_engine.proofs.laws.commits_make_four_to_ten_calls.Goals as goal

pub returns : goal.returns
returns c = record { exact = count-exact; done = count-done; refused = count-refused }
