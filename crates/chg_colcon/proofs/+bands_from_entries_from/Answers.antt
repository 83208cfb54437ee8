-- `chg_colcon::bands_from` and `chg_colcon::entries_from` meet their contracts: each call has fewer bytes left, and its three words come first.
-- Assumes nothing.
use lib.ListN.{length, take, drop}
use native.Mathlib.Omega.{arith}
use mathlib.Core.Path.{sym, refl}
use Prim.Native.Nat.{◌≤◌, ◌-◌, ◌+◌}
use Rattle.bands_model.specs.Bands.{bands_of, entries_of}
use Rattle.bands_model.proofs.Loops.{head-room, entry-room, goes_step, goes_none, goes_end, goes_bad, rest-entries, band_end_lem, band-bad, band-none, band-some, entry-bad, entry-last, entry_more}
use Rattle.chg_colcon.proofs.+bands_from_entries_from.Goals as goal

pub bands_from-returns-then-deep-eq0 : goal.bands_from-returns-then-deep-eq0
bands_from-returns-then-deep-eq0 t c = goes_none c.args.p.now c.args.deep 0 0 c.args.at _ c.args.out.now c.if-deep-eq0.true refl

pub bands_from-put3-requires : goal.bands_from-put3-requires
bands_from-put3-requires t c = omega (arith, head-room c.args.p.now _ _ _ (sym c.in-Band.ensures))

pub bands_from-slice_bounds-bands_from-count : goal.bands_from-slice_bounds-bands_from-count
bands_from-slice_bounds-bands_from-count t c = head-room c.args.p.now _ _ _ (sym c.in-Band.ensures)

pub bands_from-slice_bounds-bands_from-start : goal.bands_from-slice_bounds-bands_from-start
bands_from-slice_bounds-bands_from-start t c = head-room c.args.p.now _ _ _ (sym c.in-Band.ensures)

pub bands_from-overflow_add-at : goal.bands_from-overflow_add-at
bands_from-overflow_add-at t c = omega (arith, head-room c.args.p.now _ _ _ (sym c.in-Band.ensures))

pub bands_from-bands_from-requires : goal.bands_from-bands_from-requires
bands_from-bands_from-requires t c = let h : 4 ≤ length c.args.p.now = head-room c.args.p.now _ _ _ (sym c.in-Band.ensures) in omega arith

pub bands_from-returns-then-left-eq0 : goal.bands_from-returns-then-left-eq0
bands_from-returns-then-left-eq0 t c =
    let s = c.args.p.now in
    let b = c.in-Band in
    let e = sym b.ensures in
    goes_step s 4 c.args.deep _ (bands_of (take (length s - 4) (drop 4 s))) b.first b.last b.left c.args.at c.args.out.now _ _ _ (head-room s _ _ _ e) (omega arith) c.if-deep-eq0.false (band-none s _ _ _ e c.if-left-eq0.true) c.put3.ensures c.bands_from.ensures

pub bands_from-slice_bounds-entries_from-count : goal.bands_from-slice_bounds-entries_from-count
bands_from-slice_bounds-entries_from-count t c = head-room c.args.p.now _ _ _ (sym c.in-Band.ensures)

pub bands_from-slice_bounds-entries_from-start : goal.bands_from-slice_bounds-entries_from-start
bands_from-slice_bounds-entries_from-start t c = head-room c.args.p.now _ _ _ (sym c.in-Band.ensures)

pub bands_from-overflow_add-at-in-Band : goal.bands_from-overflow_add-at-in-Band
bands_from-overflow_add-at-in-Band t c = omega (arith, head-room c.args.p.now _ _ _ (sym c.in-Band.ensures))

pub bands_from-entries_from-requires : goal.bands_from-entries_from-requires
bands_from-entries_from-requires t c = let h : 4 ≤ length c.args.p.now = head-room c.args.p.now _ _ _ (sym c.in-Band.ensures) in omega arith

pub bands_from-returns-in-End : goal.bands_from-returns-in-End
bands_from-returns-in-End t c = goes_end c.args.p.now c.args.deep c.args.at _ c.args.out.now (band_end_lem c.args.p.now (sym c.in-End.ensures))

pub bands_from-returns-in-Bad : goal.bands_from-returns-in-Bad
bands_from-returns-in-Bad t c = goes_bad _ _ _ _ _ _ (band-bad c.args.p.now (sym c.in-Bad.ensures))

pub bands_from-returns-else-left-eq0 : goal.bands_from-returns-else-left-eq0
bands_from-returns-else-left-eq0 t c =
    let s = c.args.p.now in
    let b = c.in-Band in
    let e = sym b.ensures in
    goes_step s 4 c.args.deep _ (entries_of (take (length s - 4) (drop 4 s)) b.left 0) b.first b.last b.left c.args.at c.args.out.now _ _ _ (head-room s _ _ _ e) (omega arith) c.if-deep-eq0.false (band-some s _ _ _ e c.if-left-eq0.false) c.put3.ensures c.entries_from.ensures

pub entries_from-returns-then-deep-eq0 : goal.entries_from-returns-then-deep-eq0
entries_from-returns-then-deep-eq0 t c = goes_none c.args.p.now c.args.deep c.args.left c.args.lo c.args.at _ c.args.out.now c.if-deep-eq0.true (rest-entries _ _ _ (λ e. omega arith))

pub entries_from-put3-requires : goal.entries_from-put3-requires
entries_from-put3-requires t c = omega (arith, entry-room c.args.p.now c.args.lo _ _ _ (sym c.in-Some.ensures))

pub entries_from-slice_bounds-bands_from-count : goal.entries_from-slice_bounds-bands_from-count
entries_from-slice_bounds-bands_from-count t c = entry-room c.args.p.now c.args.lo _ _ _ (sym c.in-Some.ensures)

pub entries_from-slice_bounds-bands_from-start : goal.entries_from-slice_bounds-bands_from-start
entries_from-slice_bounds-bands_from-start t c = entry-room c.args.p.now c.args.lo _ _ _ (sym c.in-Some.ensures)

pub entries_from-overflow_add-at : goal.entries_from-overflow_add-at
entries_from-overflow_add-at t c = omega (arith, entry-room c.args.p.now c.args.lo _ _ _ (sym c.in-Some.ensures))

pub entries_from-bands_from-requires : goal.entries_from-bands_from-requires
entries_from-bands_from-requires t c = let h : 6 ≤ length c.args.p.now = entry-room c.args.p.now c.args.lo _ _ _ (sym c.in-Some.ensures) in omega arith

pub entries_from-returns-then-left-eq1 : goal.entries_from-returns-then-left-eq1
entries_from-returns-then-left-eq1 t c =
    let s = c.args.p.now in
    let x = c.in-Some in
    let e = sym x.ensures in
    goes_step s 6 c.args.deep _ (bands_of (take (length s - 6) (drop 6 s))) x.entry.column x.entry.selectors x.entry.alphas c.args.at c.args.out.now _ _ _ (entry-room s c.args.lo _ _ _ e) (omega arith) c.if-deep-eq0.false (entry-last s c.args.left c.args.lo _ _ _ e c.if-left-eq1.true) c.put3.ensures c.bands_from.ensures

pub entries_from-slice_bounds-entries_from-count : goal.entries_from-slice_bounds-entries_from-count
entries_from-slice_bounds-entries_from-count t c = entry-room c.args.p.now c.args.lo _ _ _ (sym c.in-Some.ensures)

pub entries_from-slice_bounds-entries_from-start : goal.entries_from-slice_bounds-entries_from-start
entries_from-slice_bounds-entries_from-start t c = entry-room c.args.p.now c.args.lo _ _ _ (sym c.in-Some.ensures)

pub entries_from-overflow_add-at-in-Some : goal.entries_from-overflow_add-at-in-Some
entries_from-overflow_add-at-in-Some t c = omega (arith, entry-room c.args.p.now c.args.lo _ _ _ (sym c.in-Some.ensures))

pub entries_from-entries_from-requires : goal.entries_from-entries_from-requires
entries_from-entries_from-requires t c = let h : 6 ≤ length c.args.p.now = entry-room c.args.p.now c.args.lo _ _ _ (sym c.in-Some.ensures) in omega arith

pub entries_from-returns-in-None : goal.entries_from-returns-in-None
entries_from-returns-in-None t c = goes_bad _ _ _ _ _ _ (entry-bad c.args.p.now c.args.left c.args.lo (sym c.in-None.ensures))

pub entries_from-returns-else-left-eq1 : goal.entries_from-returns-else-left-eq1
entries_from-returns-else-left-eq1 t c =
    let s = c.args.p.now in
    let x = c.in-Some in
    let e = sym x.ensures in
    goes_step s 6 c.args.deep _ (entries_of (take (length s - 6) (drop 6 s)) (c.args.left - 1) (x.entry.column + 1)) x.entry.column x.entry.selectors x.entry.alphas c.args.at c.args.out.now _ _ _ (entry-room s c.args.lo _ _ _ e) (omega arith) c.if-deep-eq0.false (entry_more s c.args.left c.args.lo _ _ _ e c.if-left-eq1.false) c.put3.ensures c.entries_from.ensures
