use Rattle.std.proofs.Common.{◌≡◌, ◌∙◌, ◌∷◌, ◌++◌, List, [], length, Some, None, is_some, refl, sym, ap, subst, arith}
use Rattle.std.specs.List.{AllByRecursion}
use Rattle.st_fold.specs.declared.plan.LifePlan.{LifePlan}
use Rattle.st_fold.specs.declared.report.Life.{Life}
use Rattle.st_model.specs.Report.{given_by}
use Rattle.st_run.specs.Lived.{IsLivable, OwnsAll, LivesOn, given_of}
use Rattle.st_run.specs.Ran.{RunsOn}
use Rattle.st_run.proofs.Running.{Continues, continues-first, done, empty-of, faulted, goes-on, no-room, not-begun, nothing-left, some-of}
use Rattle.st_run.proofs.lives.run_lives.Goals as goal

pub loop-plan-init : goal.loop-plan-init
loop-plan-init g c =
    let told = g.D.Disk.history in
    let count = g.D.Disk.fault_count in
    let script = c.args.script in (
      subst (λ l. Continues told count script script.lives c.args.disk c.as_slice-left.result.now c.args.disk l) (sym c.new-lives.ensures.items)
          (subst (λ p. Continues told count script script.lives c.args.disk p c.args.disk []) (sym c.as_slice-left.ensures) (continues-first told count script script.lives c.args.disk)),
      refl,
      subst (λ p. AllByRecursion IsLivable p) (sym c.as_slice-left.ensures) c.requires.lives,
    )

pub returns-then-is_err : goal.returns-then-is_err
returns-then-is_err g c =
    let told = g.D.Disk.history in
    let count = g.D.Disk.fault_count in
    let script = c.args.script in
    let here = subst (λ p. Continues told count script script.lives c.args.disk p c.loop-plan.disk c.loop-plan.lives.items) c.in-Some.ensures.cases.0 c.loop-plan.invariant.0 in
    subst (RunsOn told count script script.lives c.args.disk) (sym c.ran_with.ensures)
    (subst (λ l. RunsOn told count script script.lives c.args.disk (record { lives = l; fault = _; disk = c.loop-plan.disk })) (sym c.reserve.ensures.items)
    (no-room told count script script.lives c.args.disk c.in-Some.plan.now c.in-Some.later.now c.loop-plan.disk c.loop-plan.lives.items here))

pub live_on-life-requires-clause-served : goal.live_on-life-requires-clause-served
live_on-life-requires-clause-served g c = subst (OwnsAll c.args.script.settings c.args.script.own) (sym c.loop-plan.invariant.1) c.requires.served

pub live_on-life-requires-clause-livable : goal.live_on-life-requires-clause-livable
live_on-life-requires-clause-livable g c = (subst (λ p. AllByRecursion IsLivable p) c.in-Some.ensures.cases.0 c.loop-plan.invariant.2).0

pub returns-in_default-life : goal.returns-in_default-life
returns-in_default-life g c =
    let told = g.D.Disk.history in
    let count = g.D.Disk.fault_count in
    let script = c.args.script in
    let plan = c.in-Some.plan.now in
    let ended = c.live_on-life.result in
    let here = subst (λ p. Continues told count script script.lives c.args.disk p c.loop-plan.disk c.loop-plan.lives.items) c.in-Some.ensures.cases.0 c.loop-plan.invariant.0 in
    let lives-on = subst (λ l. LivesOn told count (given_of script.settings script.own l plan) plan c.loop-plan.disk ended ended.life) c.loop-plan.invariant.1 c.live_on-life.ensures in
    subst (RunsOn told count script script.lives c.args.disk) (sym c.ran_with-in_default-life.ensures)
    (subst (λ l. RunsOn told count script script.lives c.args.disk (record { lives = l; fault = ended.fault; disk = ended.disk })) (sym c.reserve.ensures.items)
    (not-begun told count script script.lives c.args.disk plan c.in-Some.later.now c.loop-plan.disk c.loop-plan.lives.items here ended lives-on c.in_default-life.is))

pub returns-then-is_some : goal.returns-then-is_some
returns-then-is_some g c =
    let told = g.D.Disk.history in
    let count = g.D.Disk.fault_count in
    let script = c.args.script in
    let plan = c.in-Some.plan.now in
    let ended = c.live_on-life.result in
    let here = subst (λ p. Continues told count script script.lives c.args.disk p c.loop-plan.disk c.loop-plan.lives.items) c.in-Some.ensures.cases.0 c.loop-plan.invariant.0 in
    let lives-on = subst (λ l. LivesOn told count (given_of script.settings script.own l plan) plan c.loop-plan.disk ended ended.life) c.loop-plan.invariant.1 c.live_on-life.ensures in
    let why = some-of ended.fault (sym c.is_some.ensures ∙ c.if-is_some.true) in
    let items = c.push_reserved.ensures.items ∙ ap (λ (l : List Life). l ++ c.in-Some-life.life ∷ []) c.reserve.ensures.items in
    subst (RunsOn told count script script.lives c.args.disk) (sym c.ran_with-then-is_some.ensures)
    (subst (λ l. RunsOn told count script script.lives c.args.disk (record { lives = l; fault = ended.fault; disk = ended.disk })) (sym items)
    (faulted told count script script.lives c.args.disk plan c.in-Some.later.now c.loop-plan.disk c.loop-plan.lives.items here ended lives-on c.in-Some-life.life c.in-Some-life.is why.0 why.1))

pub loop-plan-smaller : goal.loop-plan-smaller
loop-plan-smaller g c = let shorter = ap (λ (l : List LifePlan). length l) c.in-Some.ensures.cases.0 in omega (arith, shorter)

pub loop-plan-preserved : goal.loop-plan-preserved
loop-plan-preserved g c =
    let told = g.D.Disk.history in
    let count = g.D.Disk.fault_count in
    let script = c.args.script in
    let plan = c.in-Some.plan.now in
    let later = c.in-Some.later.now in
    let ended = c.live_on-life.result in
    let life = c.in-Some-life.life in
    let here = subst (λ p. Continues told count script script.lives c.args.disk p c.loop-plan.disk c.loop-plan.lives.items) c.in-Some.ensures.cases.0 c.loop-plan.invariant.0 in
    let lives-on = subst (λ l. LivesOn told count (given_of script.settings script.own l plan) plan c.loop-plan.disk ended ended.life) c.loop-plan.invariant.1 c.live_on-life.ensures in
    let items = c.push_reserved.ensures.items ∙ ap (λ (l : List Life). l ++ life ∷ []) c.reserve.ensures.items in
    let begun = subst (λ o. LivesOn told count (given_by script plan) plan c.loop-plan.disk ended o) c.in-Some-life.is lives-on in (
      subst (λ l. Continues told count script script.lives c.args.disk later ended.disk l) (sym items)
          (goes-on told count script script.lives c.args.disk plan later c.loop-plan.disk c.loop-plan.lives.items here ended lives-on life c.in-Some-life.is
          (nothing-left ended.fault (sym c.is_some.ensures ∙ c.if-is_some.false))),
      begun.log,
      (subst (λ p. AllByRecursion IsLivable p) c.in-Some.ensures.cases.0 c.loop-plan.invariant.2).1,
    )

pub returns : goal.returns
returns g c =
    let told = g.D.Disk.history in
    let count = g.D.Disk.fault_count in
    let script = c.args.script in
    let here = subst (λ p. Continues told count script script.lives c.args.disk p c.loop-plan.disk c.loop-plan.lives.items) (empty-of c.loop-plan.left.now c.in_default.ensures.cases) c.loop-plan.invariant.0 in
    subst (RunsOn told count script script.lives c.args.disk) (sym c.ran_with-2.ensures)
    (done told count script script.lives c.args.disk c.loop-plan.disk c.loop-plan.lives.items here)
