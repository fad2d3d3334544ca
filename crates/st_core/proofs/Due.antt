-- What is due where all keys are served.
use Rattle.std.proofs.Common.{◌≡◌, ◌∙◌, ℕ, false, not, is_none, is_some, if◌then◌else◌, Option, Some, None, option_and_then, ap}
use Rattle.std.specs.List.{list_any}
use Rattle.std.specs.Option.{option_map}
use Rattle.st_board.specs.Base.{Store, all_served}
use Rattle.st_board.specs.Stands.{StandsFor}
use Rattle.st_core.specs.Acts.{to}
use Rattle.st_core.specs.Server.{Serves, Serving}
use Rattle.st_core.proofs.Batches.{next-upto, within}
use Rattle.st_core.proofs.Ending.{nothing-flies}
use Rattle.st_cursor.specs.Reading.{next_of}
use Rattle.st_disk.specs.History.{History}
use Rattle.st_fold.specs.declared.plan.Act.TheVariants as act
use Rattle.st_model.specs.Pieces.{wants_block, wants_fetch}
use Rattle.st_model.specs.State.{Given, Opening, State, commit_due, next_batch}
use Rattle.st_model.specs.Trace.{due}
use Rattle.st_mutation.specs.declared.batch.Batch.{Batch}

-- with no commit in flight and none to begin it is the next batch
pub due-rest : (given : Given) (state : State) → state.flight ≡ None → commit_due given state ≡ false → state.pieces ≡ all_served
    → due given state ≡ option_map (λ batch. act.Apply) (next_batch given state)
due-rest given state none not_due pieces = λ i.
    if not (is_none (none i)) then Some act.Durable
    else (if not_due i then Some act.Began
    else (if list_any wants_block (pieces i) then Some act.Block
    else (if list_any (wants_fetch state.durable) (pieces i) then Some act.Start
    else option_map (λ batch. act.Apply) (next_batch given state))))

-- of a server it is the batch that follows in its log, up to a version
pub due-following : {D P : Type 0} (given : Given) (opening : Opening) (store : Store) (told : D → Option History) (server : Serving D P)
    → Serves given opening store told server → StandsFor given opening store server.board → is_some server.flight ≡ false → commit_due given server.board.state ≡ false
    → (upto : ℕ) (following : Option Batch) → following ≡ next_of server.cursor
    → due (to upto given) server.board.state ≡ option_map (λ batch. act.Apply) (option_and_then (within upto) following)
due-following given opening store told server keeps stands none not_due upto following is =
    due-rest (to upto given) server.board.state (nothing-flies given opening store told server keeps stands none) not_due stands.pieces
    ∙ ap (option_map (λ (batch : Batch). act.Apply)) (next-upto given server.board.state server.cursor keeps.log keeps.at keeps.still.rises upto following is)
