use Rattle.std.proofs.Common.{◌≡◌, ◌≤◌, ℕ, List, length, take, drop, sym, ap, ◌∙◌, arith}
use Rattle.series_id.specs.Identity.{Identity}
use Rattle.otlp_read.specs.Tallies.{add_point}
use Rattle.book_desk.specs.Homes as homes
use Rattle.book_desk.specs.Words.{width, point_said}
use Rattle.book_desk.proofs.WordsRead.{said_next, said_none, said_short, said_series}
use Rattle.book_desk.proofs.by_number.add_next.Goals as goal

pub returns-clause-read : goal.returns-clause-read
returns-clause-read c = λ t r.
    let w : c.width-words.result ≡ width c.in-Some.name.now.kind =
    c.width-words.ensures ∙ ap width
    (c.kind.ensures
    ∙ ap (λ (x : Identity). x.kind) (c.as_series.ensures ∙ c.series.ensures)) in
    let l : c.width-words.result ≤ length (drop 1 c.args.left.now) =
    omega (arith, c.if-rest-words.false, ap length c.split_at.ensures.back) in
    let p : c.in_ok-point.point ≡ point_said c.in-Some.name.now
    (take c.width-words.result (drop 1 c.args.left.now)) =
    c.in_ok-point.ensures ∙ (ap (λ (x : Identity). point_said x c.split_at-2.result.0.now)
    c.series-2.ensures ∙ ap (λ (ws : List ℕ). point_said c.in-Some.name.now ws)
    (c.split_at-2.ensures.front
    ∙ ap (λ (ws : List ℕ). take c.width-words.result ws)
    c.split_at.ensures.back)) in (
      add_point c.in_ok-point.point t,
      said_next c.args.names.now c.width-words.result 0
          c.args.left.now t c.in-Some.name.now c.in_ok-point.point c.requires.left
          (sym c.in-Some.ensures) w l p,
      c.in_ok-add.ensures.read t r,
    )

pub returns-in_default-clause-none : goal.returns-in_default-clause-none
returns-in_default-clause-none c = λ e t.
    let h = rw c.in_default.is at c.get.ensures in
    said_none c.args.names.now 0 c.args.left.now t c.requires.left (sym h)

pub returns-then-rest-words-clause-none : goal.returns-then-rest-words-clause-none
returns-then-rest-words-clause-none c = λ e t.
    let w : c.width-words.result ≡ width c.in-Some.name.now.kind =
    c.width-words.ensures ∙ ap width
    (c.kind.ensures
    ∙ ap (λ (x : Identity). x.kind) (c.as_series.ensures ∙ c.series.ensures)) in
    said_short c.args.names.now c.width-words.result 0 c.args.left.now t c.in-Some.name.now
    c.requires.left (sym c.in-Some.ensures) w
    (omega (arith, c.if-rest-words.true, ap length c.split_at.ensures.back))

pub add-requires-clause-home : goal.add-requires-clause-home
add-requires-clause-home c = λ p e.
    let s : c.in-Some.name.now ≡ p.series =
    sym c.series-2.ensures ∙ said_series c.series-2.result.now c.split_at-2.result.0.now p
    (sym c.in_ok-point.ensures ∙ e) in
    c.home.ensures.value ∙ (ap (λ (n : ℕ). homes.home n c.in-Some.name.now) c.books.ensures
    ∙ ap (λ (x : Identity). homes.home (length c.args.draft.now.parts.items) x) s)
