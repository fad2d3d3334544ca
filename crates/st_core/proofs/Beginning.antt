-- A server that did nothing yet.
use Rattle.std.proofs.Common.{◌≡◌, ◌∙◌, Option, Some, None, IfSome, IsTrue, refl, sym, ap, subst}
use Rattle.std.specs.Option.{option_map}
use Rattle.st_board.specs.Base.{Store}
use Rattle.st_board.specs.Stands.{IsStill, Standing, StandsFor}
use Rattle.st_core.specs.Server.{HoldsState, IsMade, Serves, ReadNow}
use Rattle.st_course.specs.Course.{job_after}
use Rattle.st_course.specs.declared.job.CommitJob.{CommitJob}
use Rattle.st_cursor.specs.Reading.{Reading}
use Rattle.st_disk.specs.History.{Files, History, MayLeave}
use Rattle.st_engine.specs.Engine.{Agrees, Mounted, ToldAgrees}
use Rattle.st_engine.specs.Holding.{Reads}
use Rattle.st_model.specs.State.{Given, Opening}
use Rattle.st_restart.specs.Agreement.{is_version}

module _ {D P : Type 0} (given : Given) (opening : Opening) (store : Store) (told : D → Option History)
    (board : Standing) (engine : Mounted D) (peer : P) (cursor : Reading) where
  pub keeps-first : IsStill given opening → StandsFor given opening store board → ToldAgrees told engine
      → cursor.log ≡ given.log → cursor.last ≡ board.state.newest → board.state.flight ≡ None
      → IsMade given opening store board.trace engine.store.pairs → HoldsState given board.state engine.store.fresh engine.store.pairs
      → IsTrue (is_version given.log board.state.durable) → engine.broken ≡ None
      → Serves given opening store told (record { board = board; engine = engine; peer = peer; cursor = cursor; flight = None })
  keeps-first still stands agrees of_log at none made stored version sound = record {
    still = still;
    log = of_log;
    at = at;
    flight = of (job_after given opening store.fresh board.trace) (stands.flown ∙ ap (option_map (λ (f : Opening). f.version)) none);
    changes = λ job is. absurd (cc (is));
    storable = λ flight flies. absurd (cc (sym none ∙ flies));
    made = made;
    stored = stored;
    version = version;
    next_version = λ flight flies. absurd (cc (sym none ∙ flies));
    images = in_agreement (told engine.disk) (agrees sound);
    sound = λ _. sound;
  }
    where
      of : (o : Option CommitJob) → option_map (λ (job : CommitJob). job.version) o ≡ None → None ≡ o
      of None is = refl
      of (Some job) is = absurd (cc (is))

      in_agreement : (o : Option History) → IfSome o (λ h. Agrees engine h) → IfSome o (λ h. (images : Files) → MayLeave h images → ReadNow engine.store.fresh engine.store.pairs None images)
      in_agreement None all = tt
      in_agreement (Some h) all = λ images may. subst (λ (f : Files). Reads engine.store.fresh engine.store.pairs f) (sym (all.stands.images images may)) all.reads
