use Rattle.std.proofs.Common.{◌+◌, drop, get_or, sym, ap, ◌∙◌}
use Rattle.levels.specs.Rows.{rows}
use Rattle.levels.specs.Deciders.{fill}
use Rattle.levels.proofs.Fills.{row, rows_item, rows_end, fill_put, fill_skip, fill_stop, fill_done}
use Rattle.levels.proofs.marked.Marked.fill.Goals as goal
use Rattle.levels.proofs.marked.Marked.fill.Goals.{else-self-i-via-then-self-i+else-not-put, else-self-i-via-else-self-i}

pub loop-i-preserved : goal.loop-i-preserved
loop-i-preserved g c =
    let k = g.F.Filter.kind in
    let f = g.I.Identifier.form in
    let me = c.args.self.now in
    let i = c.loop-i.i in
    let v = g.F.Filter.view c.loop-i.filter in
    let e = c.entry-item.result in
    let rest = drop (i + 1) (rows f me.list.now me.marks.now) in
    c.loop-i.invariant
    ∙ ap (fill k v i) (rows_item f me.list.now me.marks.now i e c.entry-item.is c.loop-i-test.true me.same_length)
    ∙ elim c.else-self-i.branch [
      | else-self-i-via-then-self-i+else-not-put w ↦
          fill_put k v (g.F.Filter.view c.else-self-i.filter) i (row f e (get_or me.marks.now i 0)) rest w.if-self-i.true
          (sym (ap (λ p. p.0) w.put.ensures) ∙ w.if-not-put.false)
          (ap g.F.Filter.view w.filter-is ∙ ap (λ p. p.1) w.put.ensures)
      | else-self-i-via-else-self-i w ↦
          fill_skip k v i (row f e (get_or me.marks.now i 0)) rest w.if-self-i.false
          ∙ ap (λ u. fill k (g.F.Filter.view u) (i + 1) rest) (sym w.filter-is)
    ]

pub returns-then-not-put : goal.returns-then-not-put
returns-then-not-put g c =
    let k = g.F.Filter.kind in
    let f = g.I.Identifier.form in
    let me = c.args.self.now in
    let i = c.loop-i.i in
    let v = g.F.Filter.view c.loop-i.filter in
    let e = c.entry-item.result in
    c.loop-i.invariant
    ∙ ap (fill k v i) (rows_item f me.list.now me.marks.now i e c.entry-item.is c.loop-i-test.true me.same_length)
    ∙ fill_stop k v i (row f e (get_or me.marks.now i 0)) (drop (i + 1) (rows f me.list.now me.marks.now)) c.if-self-i.true (sym (ap (λ p. p.0) c.put.ensures) ∙ c.if-not-put.true)

pub returns : goal.returns
returns g c =
    let k = g.F.Filter.kind in
    let me = c.args.self.now in
    let i = c.loop-i.i in
    let v = g.F.Filter.view c.loop-i.filter in
    c.loop-i.invariant ∙ ap (fill k v i) (rows_end g.I.Identifier.form me.list.now me.marks.now i c.loop-i-test.false) ∙ fill_done k v i
