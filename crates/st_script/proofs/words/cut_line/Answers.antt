use Rattle.std.proofs.Common.{◌≡◌, ℕ, ◌+◌, ◌<◌, ◌∷◌, List, [], length, take, drop, arith, rules, refl, sym, ◌∙◌, take_all}
use Rattle.std.specs.List.{position_or_len}
use Rattle.std.proofs.lemmas.List.Sums.{position_or_len_is}
use Rattle.std.proofs.lemmas.List.{take_rest, drop_all}
use Rattle.st_script.specs.Words.{lines}
use Rattle.st_script.proofs.Cutting.{is_lf, lines-cut}
use Rattle.st_script.proofs.words.cut_line.Goals as goal

cut_at : (text : List ℕ) (at : ℕ) → 0 < length text → at ≡ position_or_len is_lf text → lines text ≡ take at text ∷ lines (drop (at + 1) text)
cut_at [] at h e = absurd (omega arith)
cut_at (byte ∷ text) at h e = rw e (lines-cut byte text)

pub returns-in-Some-clause-cut : goal.returns-in-Some-clause-cut
returns-in-Some-clause-cut c =
    let text = c.args.text.now in
    let found = position_or_len_is is_lf text c.in-Some.end 0 (search rules) (search rules) (search rules) in
    rw take_rest (cut_at text c.in-Some.end c.requires (sym found))

pub returns-in-None-clause-cut : goal.returns-in-None-clause-cut
returns-in-None-clause-cut c =
    let text = c.args.text.now in
    let none = position_or_len_is is_lf text (length text) 0 (omega arith) (search rules) (search rules) in
    let all : take (length text) text ≡ text = take_all (length text) text (omega arith) in
    let rest : drop (length text + 1) text ≡ [] = drop_all (length text + 1) text (omega arith) in
    cut_at text (length text) c.requires (sym none) ∙ rw (all, rest) refl
