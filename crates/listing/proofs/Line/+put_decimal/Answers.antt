-- `listing::put_decimal` meets its contract: the last digit after those before it. Assumes nothing.
use native.Mathlib.Omega.{arith}
use mathlib.Core.Path.{sym}
use Rattle.listing_model.proofs.Laws.{decimal-one, decimal-more, length-one, length_more, put_put, put_as, put_tight}
use Rattle.listing.proofs.Line.+put_decimal.Goals as goal

pub put_byte-requires : goal.put_byte-requires
put_byte-requires t c = let q = c.requires in omega (arith, length-one c.args.n c.if-n-lt10.true)

pub returns-then-n-lt10-clause-put : goal.returns-then-n-lt10-clause-put
returns-then-n-lt10-clause-put t c = put_tight (put_as (sym (decimal-one c.args.n c.if-n-lt10.true)) c.put_byte.ensures.put)

pub put_decimal-requires : goal.put_decimal-requires
put_decimal-requires t c =
    let e = c.decreases in
    let q = c.requires in
    let z = c.if-n-lt10.false in
    (omega arith, omega (arith, length_more c.args.n z))

pub put_byte-requires-2 : goal.put_byte-requires-2
put_byte-requires-2 t c =
    let q = c.requires in
    let r = c.put_decimal.ensures.put.next in
    omega (arith, length_more c.args.n c.if-n-lt10.false)

pub returns-clause-put : goal.returns-clause-put
returns-clause-put t c = put_tight (put_as (sym (decimal-more c.args.n c.if-n-lt10.false)) (put_put c.put_decimal.ensures.put c.put_byte-2.ensures.put))
