use Rattle.std.proofs.Common.{◌∙◌, Some, None, sym, ap, arith}
use Rattle.std.specs.Option.{option_copied, option_map}
use Rattle.st_core.proofs.Batches.{within-is, within-not}
use Rattle.st_core.proofs.Due.{due-following}
use Rattle.st_fold.specs.declared.plan.Act.TheVariants as act
use Rattle.st_mutation.specs.declared.batch.Batch.{Batch}
use Rattle.st_core.proofs.Keeping.{served}
use Rattle.st_core.proofs.server.Server.due.Goals as goal

pub returns-in_default : goal.returns-in_default
returns-in_default g c =
    rw (← c.self.view_is)
    (sym (due-following g.N.Story.given g.N.Story.opening g.N.Story.store g.D.Disk.history _ (served c.self.view_is c.requires.serves) c.trace.ensures.stands
    (sym c.is_some.ensures ∙ c.if-is_some.false) (sym c.commit_due.ensures ∙ c.if-commit_due.false) c.args.upto None
    (ap option_copied (sym c.in_default.is) ∙ c.following.ensures.next)))

pub returns-then-batch-upto : goal.returns-then-batch-upto
returns-then-batch-upto g c =
    rw (← c.self.view_is)
    (sym (due-following g.N.Story.given g.N.Story.opening g.N.Story.store g.D.Disk.history _ (served c.self.view_is c.requires.serves) c.trace.ensures.stands
    (sym c.is_some.ensures ∙ c.if-is_some.false) (sym c.commit_due.ensures ∙ c.if-commit_due.false) c.args.upto (Some c.in-Some.batch.now)
    (ap option_copied (sym c.in-Some.is) ∙ c.following.ensures.next)
    ∙ ap (option_map (λ (batch : Batch). act.Apply)) (within-is c.args.upto c.in-Some.batch.now c.if-batch-upto.true)))

pub returns-else-batch-upto : goal.returns-else-batch-upto
returns-else-batch-upto g c =
    rw (← c.self.view_is)
    (sym (due-following g.N.Story.given g.N.Story.opening g.N.Story.store g.D.Disk.history _ (served c.self.view_is c.requires.serves) c.trace.ensures.stands
    (sym c.is_some.ensures ∙ c.if-is_some.false) (sym c.commit_due.ensures ∙ c.if-commit_due.false) c.args.upto (Some c.in-Some.batch.now)
    (ap option_copied (sym c.in-Some.is) ∙ c.following.ensures.next)
    ∙ ap (option_map (λ (batch : Batch). act.Apply)) (within-not c.args.upto c.in-Some.batch.now (let above = c.if-batch-upto.false in omega arith))))
