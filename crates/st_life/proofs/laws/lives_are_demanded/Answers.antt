use Rattle.st_life.specs.Play.{stage_of}
use Rattle.st_life.proofs.Demanded.{commits-within, demanded, ends-in, follows, servable-plan, servable-start, serves-again}
use Rattle.st_life.proofs.laws.lives_are_demanded.Goals as goal

pub returns : goal.returns
returns c = record {
  played = λ script plan start life served plays. demanded script plan start served life
      (c.schedules_are_demanded.ensures.played (stage_of start) life (servable-start script plan start served) (servable-plan script plan start served)
      (commits-within c.commits_make_four_to_ten_calls.ensures.done c.commits_make_four_to_ten_calls.ensures.refused start) plays);
  broken = λ script plan start life served breaks. demanded script plan start served life
      (c.schedules_are_demanded.ensures.broken (stage_of start) life (servable-start script plan start served) (servable-plan script plan start served)
      (commits-within c.commits_make_four_to_ten_calls.ensures.done c.commits_make_four_to_ten_calls.ensures.refused start) breaks);
  state_played = λ script plan start life served plays. ends-in script plan start served life plays.0.state
      (c.schedules_end_in_their_states.ensures.played (stage_of start) life (servable-start script plan start served) (servable-plan script plan start served)
      (commits-within c.commits_make_four_to_ten_calls.ensures.done c.commits_make_four_to_ten_calls.ensures.refused start) plays);
  state_broken = λ script plan start life served breaks. ends-in script plan start served life breaks.0.state
      (c.schedules_end_in_their_states.ensures.broken (stage_of start) life (servable-start script plan start served) (servable-plan script plan start served)
      (commits-within c.commits_make_four_to_ten_calls.ensures.done c.commits_make_four_to_ten_calls.ensures.refused start) breaks);
  follows_played = λ script plan next start later life files served plays opens starts. follows script plan start served life plays.0.state
      (c.schedules_end_in_their_states.ensures.played (stage_of start) life (servable-start script plan start served) (servable-plan script plan start served)
      (commits-within c.commits_make_four_to_ten_calls.ensures.done c.commits_make_four_to_ten_calls.ensures.refused start) plays)
      files opens next later starts;
  follows_broken = λ script plan next start later life files served breaks opens starts. follows script plan start served life breaks.0.state
      (c.schedules_end_in_their_states.ensures.broken (stage_of start) life (servable-start script plan start served) (servable-plan script plan start served)
      (commits-within c.commits_make_four_to_ten_calls.ensures.done c.commits_make_four_to_ten_calls.ensures.refused start) breaks)
      files opens next later starts;
  served = λ script plan next start later life files served servable_plan starts opens. serves-again script next later files starts servable_plan
      (c.lives_behind_served_ones_are_served.ensures script plan next start.opening later.opening life.trace served.servable opens);
}
