use Rattle.std.proofs.Common.{◌≡◌, ◌-◌, ◌≤◌, ◌++◌, map, take, drop, vec_items}
use Rattle.words.specs.Lines.{words_from, words_of}
use Rattle.words.proofs.lines.words.Given as goal

-- the words found, and then those of what is left, the first of which began at start
abbrev pub invariant-loop-i : goal.invariant-loop-i
invariant-loop-i l = (l.start ≤ l.i) × (map (λ w. w.now) (vec_items l.all) ++ words_from (take (l.i - l.start) (drop l.start l.line)) (drop l.i l.line) ≡ words_of l.line)
