use Rattle.std.proofs.Common.{◌≡◌, ◌∙◌, Some, sym, codes, arith}
use Rattle.clap.specs.Words.{first_of, found_of, rows_of}
use Rattle.clap.proofs.WalkLemmas.{first_value-rows}
use Rattle.gateway_options.proofs.Unmeant.{no_backend, no_text, where_none}
use Rattle.gateway_options.proofs.command_line.serve_options.Goals as goal

pub returns-clause-served : goal.returns-clause-served
returns-clause-served c =
    let found = found_of c.args.matches.now in
    let backend : first_of (codes "backend") (rows_of found) ≡ Some c.in_ok-backend.backend.now =
    sym (first_value-rows found (codes "backend")) ∙ sym c.in_ok-backend.ensures in
    let listen : first_of (codes "listen") (rows_of found) ≡ Some c.in_ok-get_str.field-0.now =
    sym (first_value-rows found (codes "listen")) ∙ sym c.in_ok-get_str.ensures in (
      backend,
      listen,
      c.in_ok-read.ensures.number.1,
      c.in_ok-read-2.ensures.number.1,
      c.in_ok-read-3.ensures.number.1,
      c.in_ok-read-4.ensures.number.1,
      c.in_ok-read-5.ensures.number.1,
    )

pub returns-in_err-backend-clause-none : goal.returns-in_err-backend-clause-none
returns-in_err-backend-clause-none c =
    where_none c.from_residual.result
    (λ o h. no_text (found_of c.args.matches.now) (codes "backend") _ c.in_err-backend.ensures
    h.0)

pub returns-then-backend-gt-MAX_BACKEND-clause-none
    : goal.returns-then-backend-gt-MAX_BACKEND-clause-none
returns-then-backend-gt-MAX_BACKEND-clause-none c =
    let found = found_of c.args.matches.now in
    let backend : first_of (codes "backend") (rows_of found) ≡ Some c.in_ok-backend.backend.now =
    sym (first_value-rows found (codes "backend")) ∙ sym c.in_ok-backend.ensures in
    λ o. no_backend (rows_of found) c.in_ok-backend.backend.now o backend
    (omega (arith, c.if-backend-gt-MAX_BACKEND.true))

pub returns-in_err-get_str-clause-none : goal.returns-in_err-get_str-clause-none
returns-in_err-get_str-clause-none c =
    where_none c.from_residual-in_err-get_str.result
    (λ o h. no_text (found_of c.args.matches.now) (codes "listen") _ c.in_err-get_str.ensures
    h.1)

pub returns-in_err-read-2-clause-none : goal.returns-in_err-read-2-clause-none
returns-in_err-read-2-clause-none c =
    where_none c.from_residual-in_err-read-2.result
    (λ o h. c.in_err-read-2.ensures.none o.receivers h.3)

pub returns-in_err-read-3-clause-none : goal.returns-in_err-read-3-clause-none
returns-in_err-read-3-clause-none c =
    where_none c.from_residual-in_err-read-3.result
    (λ o h. c.in_err-read-3.ensures.none o.flushers h.4)

pub returns-in_err-read-4-clause-none : goal.returns-in_err-read-4-clause-none
returns-in_err-read-4-clause-none c =
    where_none c.from_residual-in_err-read-4.result
    (λ o h. c.in_err-read-4.ensures.none o.flush_series h.5)

pub returns-in_err-read-5-clause-none : goal.returns-in_err-read-5-clause-none
returns-in_err-read-5-clause-none c =
    where_none c.from_residual-in_err-read-5.result
    (λ o h. c.in_err-read-5.ensures.none o.round h.6)
