use Rattle.std.proofs.Common.{◌≡◌, ◌∙◌, ◌<◌, ◌^◌, Option, None, Some, true, is_some, IfSome, length, sym, ap, subst}
use Rattle.st_board.specs.Stands.{StandsFor, Standing, all_served}
use Rattle.st_core.specs.Acts.{event_of, to}
use Rattle.st_fold.specs.declared.plan.Act.{Act}
use Rattle.st_model.specs.State.{Given, State}
use Rattle.st_model.specs.Trace.{due}
use Rattle.st_life.specs.Running.{Playing}
use Rattle.st_life.proofs.Closing.{due-some}
use Rattle.st_life.proofs.running.Running.due.Given as given
use Rattle.st_life.proofs.running.Running.due.Goals as goal
use Rattle.st_life.proofs.running.Running.due.Goals.{After-due}

-- all of the log may be applied
whole : (g : given.Over) → (c : After-due g) → to c.self.inside.upto g.N.Story.given ≡ g.N.Story.given
whole g c = let upto = c.self.invariant.4 in λ i. record g.N.Story.given { upto = upto i }

due-here : (g : given.Over) → (c : After-due g) → c.due.result ≡ due g.N.Story.given c.self.inside.server.board.state
due-here g c = c.due.ensures ∙ ap (λ (given : Given). due given c.self.inside.server.board.state) (whole g c)

due-made : (given : Given) (state : State) (result : Option Act) → state.pieces ≡ all_served → due given state ≡ result → IfSome result (λ action. is_some (event_of given state action) ≡ true)
due-made given state None served is = tt
due-made given state (Some action) served is = due-some given state action served is

pub returns-clause-due : goal.returns-clause-due
returns-clause-due g c =
    due-here g c
    ∙ ap (λ (given : Given). due given c.self.inside.server.board.state) (sym c.self.invariant.1.given_is)
    ∙ ap (λ (p : Playing _ _). due g.B.Beginning.start.given p.server.board.state) c.self.view_is

pub returns-clause-made : goal.returns-clause-made
returns-clause-made g c =
    let stands = subst (StandsFor g.N.Story.given g.N.Story.opening g.N.Story.store) c.board.ensures.board c.trace.ensures.stands in
    subst (λ (p : Playing _ _). IfSome c.due.result (λ action. is_some (event_of g.N.Story.given p.server.board.state action) ≡ true)) c.self.view_is
    (due-made g.N.Story.given c.self.inside.server.board.state c.due.result stands.pieces (sym (due-here g c)))

pub returns-clause-room : goal.returns-clause-room
returns-clause-room g c =
    subst (λ (p : Playing _ _). length p.server.board.trace < 2 ^ 64) c.self.view_is
    (subst (λ (board : Standing). length board.trace < 2 ^ 64) c.board.ensures.board (subst (λ trace. length trace < 2 ^ 64) c.trace.ensures.trace c.trace.type_inv.0))
