use Rattle.std.proofs.Common.{◌≡◌, ◌+◌, ◌-◌, ℕ, true, List, length, take, drop, get_or, refl, sym, ap, ◌∙◌, arith, rules, length-drop}
use Rattle.std.proofs.lemmas.List.{length-take}
use Rattle.st_queue.specs.Frames.{is_payload}
use Rattle.st_queue.proofs.FramesLemmas.{next-some, next-inside}
use Rattle.st_queue.proofs.reading.next_frame.Goals as goal

pub returns : goal.returns
returns c =
    let bytes = c.args.bytes.now in
    let behind = take (length bytes - 1) (drop 1 bytes) in
    let some = c.in-len1-up.len_at_least in
    let inside = next-inside c.args.file c.args.seq c.args.at bytes (get_or bytes 0 0) refl some c.if-gate-ne-OPEN.false c.in-Some.count c.in-Some.ensures in
    let count = c.in-Some.count in
    let long : 12 + count - 12 ≡ count = omega arith in
    let judged : is_payload (take (12 + count - 12) (drop 12 behind)) ≡ true = sym c.in_ok-is_payload.ensures.ok ∙ c.if-not-branch.false in
    let listed : is_payload (take count (drop 12 behind)) ≡ true = ap (λ (n : ℕ). is_payload (take n (drop 12 behind))) (sym long) ∙ judged in
    let copy : c.in_ok-to_vec.field-0.items ≡ take (12 + count - 12) (drop 12 behind) = search rules in
    let copied : c.new-payload.result ≡ take count (drop 12 behind) = c.new-payload.ensures ∙ copy ∙ ap (λ (n : ℕ). take n (drop 12 behind)) long in (
      omega arith,
      omega (arith, inside, length-take (length bytes - 1) (drop 1 bytes), length-drop 1 bytes),
      next-some c.args.file c.args.seq c.args.at bytes (get_or bytes 0 0) refl some c.if-gate-ne-OPEN.false c.in-Some.count c.in-Some.ensures listed _ (ap (λ (p : List ℕ). record { seq = c.args.seq; file = c.args.file; at = c.args.at; payload = p }) copied),
    )
