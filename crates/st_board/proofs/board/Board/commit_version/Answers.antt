use Rattle.std.proofs.Common.{◌∙◌, ◌-◌, unwrap_or, ap}
use Rattle.std.specs.Option.{option_map}
use Rattle.st_fold.specs.declared.plan.Settings.{Settings}
use Rattle.st_model.specs.State.{commit_version}
use Rattle.st_versioned.specs.Window.{last_to}
use Rattle.st_board.specs.Stands.{Standing}
use Rattle.st_board.proofs.Commits.{version-kept}
use Rattle.st_board.proofs.board.Board.commit_version.Goals as goal

pub returns : goal.returns
returns g c =
    c.unwrap_or.ensures
    ∙ ap (λ o. unwrap_or o c.self.inside.durable.version)
    (c.kept_at.ensures
    ∙ ap (λ bound. option_map (λ kept. kept.version) (last_to bound c.self.inside.window.roots))
    (c.saturating_sub-bound.ensures ∙ ap (λ (s : Settings). c.self.inside.newest - s.window) c.self.invariant.1))
    ∙ version-kept g.N.Story.given g.N.Story.opening g.N.Story.store _ c.self.invariant.0
    ∙ ap (λ (b : Standing). commit_version g.N.Story.given b.state) c.self.view_is
