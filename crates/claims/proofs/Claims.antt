-- The final theorems. Each takes what the contract of a function says, an equation for its answer and for the last
-- content of what was lent, and gives what that means in the grammar's words. Assumes nothing.
use Prim.Native.Nat.{ℕ, ◌+◌, ◌*◌, ◌/◌, ◌≤◌, ◌<◌, min}
use mathlib.Core.Path.{◌≡◌, refl}
use mathlib.Core.Bool.{Bool, true, false}
use mathlib.Core.Logic.{◌↔◌}
use Rattle.std.specs.Prelude.{Some as some, None as none}
use mathlib.Core.List.{List, [], ◌∷◌, ◌++◌}
use lib.ListN.{length, get_or, set, replicate}
use lib.Seq.{sets}
use lib.IntN.{ℤ, pos, ◌+ℤ◌}
use Rattle.outcome.specs.Outcome.{Res, ok, refuse, IsOk, InTable, large_position, short_cues, no_cue, many_bands, long_instant}
use Rattle.outcome.proofs.Numbers.{no_23}
use Rattle.grammar.specs.Bytes.{byte}
use Rattle.grammar.specs.Bands.{Band, Bands, band_words, record_words}
use Rattle.grammar.specs.Control.{Block, IsChain}
use Rattle.grammar.specs.IndexParts.{blank, All}
use Rattle.grammar.specs.Index.{Said, timestamp_word, filepos_word, top_stored, LargePosition, LargeIn, FirstLarge, greys, ListedText, of_lines, no_bytes, IsText}
use Rattle.grammar.specs.IndexCues.{Cue, cues_of_lines, cues_of, cue_at, palette_of, has_palette}
use Rattle.grammar.specs.Packets.{Packet, Form, IsForm, unit_of, scratch_for, stream_id, top_stream}
use Rattle.grammar.specs.Picture.{ListedUnit, IsUnit}
use Rattle.grammar.specs.Pixels.{clipped_in}
use Rattle.grammar.specs.Record.{told, given, width}
use Rattle.grammar.specs.Times.{TimeStays}
use Rattle.grammar.specs.Reading.{Wanted, wanted_id, Reading, IsReading, told_by, reading_start, show_of, hide_of, shown, unit_canvas, canvas_of}
use Rattle.grammar.specs.Streams.{Walk, Alike}
use Rattle.grammar.specs.Rows.{Code, run, fills, paints, overshoots, FieldRows}
use Rattle.grammar.proofs.Unique.{field-unique, bands-unique}
use Rattle.grammar.proofs.UniqueControl.{unit-unique}
use Rattle.grammar.proofs.UniqueIndex.{text_unique}
use Rattle.grammar.proofs.UniquePackets.{form_unique}
use Rattle.grammar.proofs.Clipped.{clipped-paints, clipped-cut, unclipped-whole, clipped-reading-most}
use Rattle.grammar.proofs.Limit.{most_words-hold, record-length}
use Rattle.grammar.proofs.Times.{shown_at_lem, hidden_at, not-shown, not_hidden, times_stay_lem}
use Rattle.grammar.proofs.Streams.{walk_same}
use Rattle.clock_model.specs.Answers.{micros, micros_in}
use Rattle.grammar.proofs.NoBytes.{no_bytes-listed, only-no_bytes, no_bytes-reading, no_bytes-read, grey-entries, grey_rule, bytes-black}
use Rattle.grammar.proofs.Positions.{large_text, large_unread, positions-stored, seventeen-large}
use Rattle.rle_model.specs.declared.Counts.{Counts}
use Rattle.rle_model.specs.Answers as field
use Rattle.rle_model.specs.Claim as FieldClaim
use Rattle.rle_model.proofs.Claim as FieldProof
use Rattle.bands_model.specs.Answers.{Stored}
use Rattle.bands_model.specs.Claim as BandsClaim
use Rattle.bands_model.proofs.Claim as BandsProof
use Rattle.ps_model.specs.declared.UnitAt.{UnitAt}
use Rattle.ps_model.specs.Answers.{Extracted, unit_stored}
use Rattle.ps_model.specs.Claim as PsClaim
use Rattle.ps_model.proofs.Claim as PsProof
use Rattle.ps_model.proofs.Streams.{walk_there}
use Rattle.idx_model.specs.declared.IdxAnswer.{IdxAnswer}
use Rattle.idx_model.specs.declared.CueAnswer.{CueAnswer}
use Rattle.idx_model.specs.Text.{idx_of}
use Rattle.idx_model.specs.Answers.{IdxRead, pick_of, cue_answer}
use Rattle.idx_model.specs.Claim.{IdxSays, CueSays}
use Rattle.idx_model.proofs.Claim.{idx_claim, cue-claim}
use Rattle.idx_model.proofs.Large.{held_whole, read-large, large_refused, picked_large, large_unpicked}
use Rattle.idx_model.proofs.NoBytes.{read_short, read-stored, picked_first, picked_other, blanks-listed, blanks_cueless, blanks-read, blanks_picked, blanks_unread}
use Rattle.spu_model.specs.declared.Record.{Record}
use Rattle.control_model.specs.declared.Spu.{Spu}
use Rattle.spu_model.specs.Unit.{unit_at}
use Rattle.spu_model.specs.Answers as unit
use Rattle.spu_model.specs.Claim as UnitClaim
use Rattle.spu_model.proofs.Claim as UnitProof
use Rattle.spu_model.proofs.Many.{unit-many}
use Rattle.demo_model.specs.Answers as demo
use Rattle.demo_model.specs.Codes.{Mark, Proper, painted, run_size}
use Rattle.demo_model.specs.Claim.{RoundTrips}
use Rattle.demo_model.proofs.Marks.{shortest}
use Rattle.demo_model.proofs.Claim as DemoProof
use Rattle.vobsub_model.specs.declared.Shown.{Shown}
use Rattle.vobsub_model.specs.Call.{Lent, listed_in}
use Rattle.vobsub_model.specs.Answers.{CuePainted}
use Rattle.vobsub_model.specs.Claim.{Gives, Room, Exactly, Undisturbed}
use Rattle.vobsub_model.proofs.Claim as VobsubProof
use Rattle.vobsub_model.proofs.Late.{earlier, late-listed}
use Rattle.vobsub_model.proofs.Large.{call_large, large_unpainted}
use Rattle.vobsub_model.proofs.Many.{many-listed}
use Rattle.vobsub_model.proofs.Streams as VobsubStreams
use Rattle.vobsub_model.proofs.NoBytes.{painted-grey}
use Rattle.listing_model.specs.Title.{form_for, cue_line}
use Rattle.listing_model.specs.Answers as listing
use Rattle.listing_model.proofs.Claim as ListingProof

-- Whole files (`decode_cue`): a canvas is given exactly where the files have a reading for the cue and the stream and
-- the buffers are long enough, no files have two readings for one cue and stream, and times, origin, size, the numbers
-- of codes and of clipped ones and every byte of the canvas are the reading's.
pub whole_files : (text file : List ℕ) (q : Wanted) (b : Lent) (r : Res Shown) (b' : Lent)
    → CuePainted text file q b r b' → Exactly text file q b r b'
whole_files text file q b r b' d = VobsubProof.claim text file q b r b' d

-- Clipped codes (`decode_cue`): their number is how many of the codes that the reading lists name a run longer than
-- what is left of their row; a reading has no more of them than lines, and no more than codes. A clipped code paints
-- less than its run, and any other that is no fill its whole run.
pub clipped_codes : (text file : List ℕ) (q : Wanted) (b : Lent) (r : Res Shown) (b' : Lent)
    → CuePainted text file q b r b'
    → (s : Shown) → r ≡ ok s → (x : Reading) → IsReading text file q x
    → s.clipped ≡ clipped_in (width (told_by x)) x.unit.rows
clipped_codes text file q b r b' d s p x h = VobsubProof.clipped_codes text file q b r b' d s p x h

pub few_clipped : (text file : List ℕ) (q : Wanted) (x : Reading) → IsReading text file q x
    → ((shown x).clipped ≤ (shown x).height) × ((shown x).clipped ≤ (shown x).codes)
few_clipped = clipped-reading-most

pub a_clipped_code : (left : ℕ) (c : Code) → overshoots left c ≡ true → (paints left c ≡ left) × (paints left c < run c)
a_clipped_code left c h = (clipped-paints left c h, clipped-cut left c h)

pub an_unclipped_run : (left : ℕ) (c : Code) → fills c ≡ false → overshoots left c ≡ false → paints left c ≡ run c
an_unclipped_run = unclipped-whole

-- Show and hide times (`decode_cue`): whether a start and a stop command stand, and both times, are the reading's. The
-- show time is the cue's start and the converted delay of the first start after it, the hide time goes by the last
-- stop; without a start there is neither, without a stop no hide time. Each stays in signed 64 bits: where text, cue,
-- stream, position, form, unit and room are in order 33 is returned exactly where one leaves, and where one of them is
-- not (`listed_in` refuses) its refusal keeps its number.
pub show_and_hide : (text file : List ℕ) (q : Wanted) (b : Lent) (r : Res Shown) (b' : Lent)
    → CuePainted text file q b r b' → (s : Shown) → r ≡ ok s → (x : Reading) → IsReading text file q x
    → (s.started ≡ given (told_by x).starts) × (s.stopped ≡ given (told_by x).stops)
    × (given s.show ≡ given (show_of x)) × (s.show ≡ micros_in (show_of x))
    × (given s.hide ≡ given (hide_of x)) × (s.hide ≡ micros_in (hide_of x))
show_and_hide text file q b r b' d s p x h = VobsubProof.shown_times_lem text file q b r b' d s p x h

pub a_show_time : (x : Reading) (d : ℕ) → (told_by x).starts ≡ some d
    → show_of x ≡ some (reading_start x +ℤ pos (d * 102400 / 9))
a_show_time = shown_at_lem

pub a_hide_time : (x : Reading) (d e : ℕ) → (told_by x).starts ≡ some d → (told_by x).stops ≡ some e
    → hide_of x ≡ some (reading_start x +ℤ pos (e * 102400 / 9))
a_hide_time = hidden_at

pub never_shown : (x : Reading) → (told_by x).starts ≡ none → (show_of x ≡ none) × (hide_of x ≡ none)
never_shown = not-shown

pub never_hidden : (x : Reading) → (told_by x).stops ≡ none → hide_of x ≡ none
never_hidden = not_hidden

pub times_in_64_bits : (text file : List ℕ) (q : Wanted) (x : Reading) → IsReading text file q x
    → TimeStays (shown x).show × TimeStays (shown x).hide
times_in_64_bits = times_stay_lem

pub refused_33 : (text file : List ℕ) (q : Wanted) (b : Lent) (r : Res Shown) (b' : Lent)
    → CuePainted text file q b r b' → (x : Reading) (c : Cue) → IsText text x.text → x.cue ≡ q.cue
    → q.stream ≤ top_stream → cue_at (cues_of x.text) x.cue ≡ some c → c.position < length file
    → IsForm (wanted_id q) file c.position x.form → IsUnit (unit_of x.form) x.unit → Room x b
    → (r ≡ refuse long_instant) ↔ (TimeStays (show_of x) × TimeStays (hide_of x) → ⊥)
refused_33 = late-listed

pub refused_before_33 : (text file : List ℕ) (q : Wanted) (b : Lent) (r : Res Shown) (b' : Lent)
    → CuePainted text file q b r b' → (n : ℕ) → listed_in text file q b ≡ refuse n → r ≡ refuse n
refused_before_33 = earlier

-- Other streams (`decode_cue`, `extract_spu`, `cue_line`): a file that differs in packets of other streams alone, among
-- those walked from the cue's position, gives the same readings, the same answer and the same buffers. Every place has
-- a walk, so that this speaks of every file and position.
pub other_streams : (text file : List ℕ) (q : Wanted) (b : Lent) (r : Res Shown) (b' : Lent)
    → CuePainted text file q b r b' → Undisturbed text file q b r b'
other_streams text file q b r b' d = VobsubStreams.undisturbed text file q b r b' d

pub other_streams_unit : (f : List ℕ) (p n : ℕ) (s : List ℕ) (r : Res UnitAt) (s' : List ℕ) → Extracted f p n s r s'
    → PsClaim.Undisturbed f p n s r s'
other_streams_unit f p n s r s' d = PsProof.undisturbed f p n s r s' d

pub other_streams_line : (cs : List Cue) (f : List ℕ) (n : ℕ) (l s : List ℕ) (r : ℕ) (l' s' : List ℕ)
    → listing.Written (cue_line cs f n) l r l'
    → s' ≡ sets s 0 (unit_stored (form_for cs f n)) → listing.Undisturbed cs f n l s r l' s'
other_streams_line cs f n l s r l' s' d e = ListingProof.undisturbed cs f n l s r l' s' d e

pub same_walk : (s : ℕ) (f g : List ℕ) (p : ℕ) (ps : List Packet) → Walk (stream_id s) f p [] ps → Alike s f g ps
    → Walk (stream_id s) g p [] ps
same_walk = walk_same

pub a_walk : (id : ℕ → Bool) (f : List ℕ) (p : ℕ) → (ps : List Packet) × Walk id f p [] ps
a_walk = walk_there

-- Thirty-two bands (`decode_cue`, `parse_and_decode_spu`, `parse_chg_colcon_payload`): no reading has more, and 32 of
-- a unit's bytes take at most 1,536 words, so that a record holds them all, with 0 after them. Where text, cue,
-- stream, position and form are in order, scratch is long enough, and the blocks are listed and give the picture a
-- size, 34 is returned exactly where the blocks have more; so for a unit, and for a payload where its list has more.
-- Nothing is refused with 23.
pub thirty_two_bands : (text file : List ℕ) (q : Wanted) (x : Reading) → IsReading text file q x
    → length (told_by x).bands ≤ 32
thirty_two_bands text file q x h = h.unit_is.few

pub words_of_32_bands : (u : List ℕ) → ((i : ℕ) → byte u i < 256) → (l : ListedUnit) → IsUnit u l
    → (length (band_words (told l.blocks).bands) ≤ 1536) × (length (record_words (told l.blocks).bands) ≡ 1536)
words_of_32_bands u s l h = let w = most_words-hold u s l.blocks h.chain h.few in (w, record-length (told l.blocks).bands w)

pub refused_34 : (text file : List ℕ) (q : Wanted) (b : Lent) (r : Res Shown) (b' : Lent)
    → CuePainted text file q b r b' → (t : ListedText) (c : Cue) (m : Form) (bs : List Block) → IsText text t
    → q.stream ≤ top_stream → cue_at (cues_of t) q.cue ≡ some c → c.position < length file
    → IsForm (wanted_id q) file c.position m → scratch_for m ≤ length b.scratch → IsChain (unit_of m) bs
    → (told bs).at.x1 ≤ (told bs).at.x2 → (told bs).at.y1 ≤ (told bs).at.y2
    → (r ≡ refuse many_bands) ↔ (32 < length (told bs).bands)
refused_34 = many-listed

pub a_unit_34 : (u : List ℕ) (bs : List Block) → IsChain u bs → (told bs).at.x1 ≤ (told bs).at.x2
    → (told bs).at.y1 ≤ (told bs).at.y2
    → (px : List ℕ) (r : Res Record) (px' : List ℕ) → unit.Decoded u px r px' → (r ≡ refuse many_bands) ↔ (32 < length (told bs).bands)
a_unit_34 = unit-many

pub a_payload_34 : (s : List ℕ) → ((i : ℕ) → byte s i < 256) → (ws : List ℕ) (r : Res ℕ) (ws' : List ℕ)
    → Stored s ws r ws'
    → (r ≡ refuse many_bands) ↔ ((bs : List Band) × Bands s (length s) 0 bs × (32 < length bs))
a_payload_34 = BandsProof.payload_many

pub never_23 : InTable 23 → ⊥
never_23 = no_23

-- A unit (`parse_and_decode_spu`, `measure_spu`): a record is given exactly where the grammar lists the unit and the
-- map is long enough.
pub a_unit : (u : List ℕ) → ((i : ℕ) → byte u i < 256) → (px : List ℕ) (r : Res Record) (px' : List ℕ)
    → unit.Decoded u px r px' → UnitClaim.Says u px px' r
a_unit u s px r px' d = UnitProof.claim u s px r px' d

pub a_unit_measured : (u : List ℕ) (r : Res Spu) → r ≡ unit.spu_answer (unit_at u) → UnitClaim.Measures u r
a_unit_measured u r d = UnitProof.measures u r d

pub one_unit : (u : List ℕ) (a b : ListedUnit) → IsUnit u a → IsUnit u b → a ≡ b
one_unit = unit-unique

-- A position (`extract_spu`): a unit is found exactly where there is such a stream, the grammar lists a unit of it
-- there, bare or in packets, and scratch is long enough.
pub a_position : (f : List ℕ) (p n : ℕ) (s : List ℕ) (r : Res UnitAt) (s' : List ℕ) → Extracted f p n s r s'
    → PsClaim.Says f p n s s' r
a_position f p n s r s' d = PsProof.claim f p n s r s' d

pub one_position : (id : ℕ → Bool) (f : List ℕ) (p : ℕ) (a b : Form) → IsForm id f p a → IsForm id f p b → a ≡ b
one_position = form_unique

-- A field (`decode_rle_field`): it is accepted exactly where the grammar lists its rows and the map holds the picture.
pub a_field : (s : List ℕ) (w h start : ℕ) (px : List ℕ) (r : Res Counts) (px' : List ℕ)
    → field.Decoded s w h start px r px' → FieldClaim.Says s w h start px px' r
a_field s w h start px r px' d = FieldProof.claim s w h start px r px' d

pub one_field : (u : List ℕ) (e w p : ℕ) (a b : List (List Code)) → length a ≡ length b → FieldRows u e w p a
    → FieldRows u e w p b → a ≡ b
one_field = field-unique

-- A payload of colour bands (`parse_chg_colcon_payload`): it is accepted exactly where the grammar lists bands, at
-- most 32.
pub a_payload : (s : List ℕ) → ((i : ℕ) → byte s i < 256) → (ws : List ℕ) (r : Res ℕ) (ws' : List ℕ)
    → Stored s ws r ws' → BandsClaim.Says s ws ws' r
a_payload s h ws r ws' d = BandsProof.claim s h ws r ws' d

pub one_payload : (u : List ℕ) (e p : ℕ) (a b : List Band) → Bands u e p a → Bands u e p b → a ≡ b
one_payload = bands-unique

-- An index text (`parse_idx`), and one cue of it (`pick_cue`): accepted exactly where the grammar lists it and there is
-- room for its cues, and where it has the cue; all that is given is the listed text's.
pub a_text : (text : List ℕ) (starts : List ℤ) (positions : List ℕ) (r : Res IdxAnswer) (starts' : List ℤ) (positions' : List ℕ)
    → IdxRead text starts positions r starts' positions' → IdxSays text starts positions r starts' positions'
a_text = idx_claim

pub a_cue : (text : List ℕ) (n : ℕ) (r : Res CueAnswer) → r ≡ cue_answer (pick_of (idx_of text) n) → CueSays text n r
a_cue = cue-claim

pub one_text : (text : List ℕ) (a b : ListedText) → IsText text a → IsText text b → a ≡ b
one_text = text_unique

-- Positions in 32 bits (`parse_idx`, `pick_cue`, `decode_cue`): each position of a listed text, and so of a reading, is
-- at most 4,294,967,295, and `parse_idx` stores it whole. A text that has a timestamp whose position is larger, in
-- whichever line, is not listed, no cue of it has a reading, and it is refused: nothing is stored, painted or joined.
-- 41 is returned exactly where every byte is below `80`, such a line is the first at fault and, where cues are stored,
-- those before it have room; no cue and no stream that is asked for changes that. 17 digits are read as the decimal
-- number that they are, and are then too large.
pub largest_stored : top_stored ≡ 4294967295
largest_stored = refl

pub positions_in_32_bits : (text : List ℕ) (t : ListedText) → IsText text t → (n : ℕ) (c : Cue)
    → cue_at (cues_of t) n ≡ some c → c.position ≤ 4294967295
positions_in_32_bits = positions-stored

pub stored_whole : (text : List ℕ) (starts : List ℤ) (positions : List ℕ) (r : Res IdxAnswer)
    (starts' : List ℤ) (positions' : List ℕ)
    → IdxRead text starts positions r starts' positions' → (t : ListedText) → IsText text t → (a : IdxAnswer) → r ≡ ok a
    → (n : ℕ) (c : Cue) → cue_at (cues_of t) n ≡ some c → (get_or positions' n 0 ≡ c.position) × (c.position ≤ 4294967295)
stored_whole = held_whole

pub larger_unlisted : (text : List ℕ) → LargeIn text
    → ((t : ListedText) → IsText text t → ⊥)
    × ((file : List ℕ) (q : Wanted) (x : Reading) → IsReading text file q x → ⊥)
larger_unlisted text h = (large_text text h, large_unread text h)

pub larger_parsed : (text : List ℕ) → LargeIn text
    → (starts : List ℤ) (positions : List ℕ) (r : Res IdxAnswer) (starts' : List ℤ) (positions' : List ℕ)
    → IdxRead text starts positions r starts' positions'
    → (IsOk r → ⊥) × (starts' ≡ starts) × (positions' ≡ positions)
larger_parsed = large_refused

pub larger_unpicked : (text : List ℕ) → LargeIn text
    → (n : ℕ) (r : Res CueAnswer) → r ≡ cue_answer (pick_of (idx_of text) n) → IsOk r → ⊥
larger_unpicked = large_unpicked

pub larger_unpainted : (text file : List ℕ) (q : Wanted) (b : Lent) → LargeIn text
    → (r : Res Shown) (b' : Lent) → CuePainted text file q b r b'
    → (Gives r → ⊥) × (b'.scratch ≡ b.scratch) × (b'.pixels ≡ b.pixels) × (b'.canvas ≡ b.canvas)
larger_unpainted = large_unpainted

pub parsed_41 : (text : List ℕ) (starts : List ℤ) (positions : List ℕ) (r : Res IdxAnswer)
    (starts' : List ℤ) (positions' : List ℕ)
    → IdxRead text starts positions r starts' positions'
    → (r ≡ refuse large_position)
    ↔ ((ls : List Said) × FirstLarge text ls × (length (cues_of_lines ls) ≤ min (length starts) (length positions)))
parsed_41 = read-large

pub picked_41 : (text : List ℕ) (n : ℕ) (r : Res CueAnswer) → r ≡ cue_answer (pick_of (idx_of text) n)
    → (r ≡ refuse large_position) ↔ ((ls : List Said) × FirstLarge text ls)
picked_41 = picked_large

pub refused_41 : (text file : List ℕ) (q : Wanted) (b : Lent) (r : Res Shown) (b' : Lent)
    → CuePainted text file q b r b'
    → (r ≡ refuse large_position) ↔ ((ls : List Said) × FirstLarge text ls)
refused_41 = call_large

pub seventeen_digits :
    (h : LargePosition (record { place = 0; bytes = timestamp_word ++ 48 ∷ 44 ∷ filepos_word ++ 49 ∷ replicate 16 48 }))
    × (h.number.value ≡ 10000000000000000)
seventeen_digits = seventeen-large

-- An index of no bytes (`parse_idx`, `pick_cue`, `decode_cue`) is listed in one way, as one cue in greys. It needs a
-- place in both buffers, and is stored in the first of each; it has cue 0 and no other; its readings are those of the
-- units at the file's front, in greys, and so is every canvas. Entry i of the 16 is 17 times i in red, green and blue.
-- No other text is listed so: one of blanks alone has no cue, so no reading, and needs no place, and a text with a byte
-- in which no line gives a palette is black.
pub an_empty_index : (t : ListedText) → IsText [] t ↔ (t ≡ no_bytes greys)
an_empty_index = no_bytes-listed

pub no_other_text : (text p : List ℕ) → IsText text (no_bytes p) → (text ≡ []) × (p ≡ greys)
no_other_text = only-no_bytes

pub an_empty_index_short : (starts : List ℤ) (positions : List ℕ) (r : Res IdxAnswer)
    (starts' : List ℤ) (positions' : List ℕ)
    → IdxRead [] starts positions r starts' positions' → min (length starts) (length positions) ≡ 0
    → (r ≡ refuse short_cues) × (starts' ≡ starts) × (positions' ≡ positions)
an_empty_index_short = read_short

pub an_empty_index_stored : (starts : List ℤ) (positions : List ℕ) (r : Res IdxAnswer)
    (starts' : List ℤ) (positions' : List ℕ)
    → IdxRead [] starts positions r starts' positions' → 0 < min (length starts) (length positions)
    → (r ≡ ok (record { width = 0; height = 0; has_palette = false; palette = greys; cues = 1 }))
    × (starts' ≡ set starts 0 (pos 0)) × (positions' ≡ set positions 0 0)
an_empty_index_stored = read-stored

pub its_cue : (r : Res CueAnswer) → r ≡ cue_answer (pick_of (idx_of []) 0)
    → r
    ≡ ok
    (record {
      start = micros (pos 0);
      position = 0;
      duration = none;
      has_palette = false;
      palette = greys;
    })
its_cue = picked_first

pub no_other_cue : (n : ℕ) (r : Res CueAnswer) → r ≡ cue_answer (pick_of (idx_of []) n) → 0 < n → r ≡ refuse no_cue
no_other_cue = picked_other

pub its_readings : (file : List ℕ) (q : Wanted) (x : Reading) → IsReading [] file q x
    → (x.text ≡ no_bytes greys) × (q.cue ≡ 0) × IsForm (wanted_id q) file 0 x.form
    × ((shown x).start ≡ pos 0) × ((shown x).duration ≡ none) × (canvas_of x ≡ unit_canvas greys x.unit)
its_readings = no_bytes-reading

pub every_front_unit : (file : List ℕ) (q : Wanted) (m : Form) (u : ListedUnit)
    → q.cue ≡ 0 → q.stream ≤ top_stream → 0 < length file → IsForm (wanted_id q) file 0 m → IsUnit (unit_of m) u
    → ((i : ℕ) → byte file i < 256)
    → IsReading [] file q (record { text = no_bytes greys; cue = 0; form = m; unit = u })
every_front_unit = no_bytes-read

pub an_empty_index_painted : (file : List ℕ) (q : Wanted) (b : Lent) (r : Res Shown) (b' : Lent)
    → CuePainted [] file q b r b' → (s : Shown) → r ≡ ok s
    → (q.cue ≡ 0) × (s.start.0 ≡ pos 0) × (s.duration ≡ none)
    × ((m : Form) × (u : ListedUnit) × IsForm (wanted_id q) file 0 m × IsUnit (unit_of m) u
    × (b'.canvas ≡ sets b.canvas 0 (unit_canvas greys u)))
an_empty_index_painted = painted-grey

pub each_grey : (length greys ≡ 3 * 16) × ((i c : ℕ) → i < 16 → c < 3 → get_or greys (3 * i + c) 0 ≡ 17 * i)
each_grey = (grey-entries.1, grey_rule)

pub blanks_alone : (text : List ℕ) → All blank text → (text ≡ [] → ⊥) → IsText text (of_lines [])
blanks_alone = blanks-listed

pub blanks_no_cue : (text : List ℕ) → All blank text → (text ≡ [] → ⊥)
    → (t : ListedText) → IsText text t → cues_of t ≡ []
blanks_no_cue = blanks_cueless

pub blanks_parsed : (text : List ℕ) → All blank text → (text ≡ [] → ⊥)
    → (starts : List ℤ) (positions : List ℕ) (r : Res IdxAnswer) (starts' : List ℤ) (positions' : List ℕ)
    → IdxRead text starts positions r starts' positions'
    → (r ≡ ok (record { width = 0; height = 0; has_palette = false; palette = replicate 48 0; cues = 0 }))
    × (starts' ≡ starts) × (positions' ≡ positions)
blanks_parsed = blanks-read

pub blanks_unpicked : (text : List ℕ) → All blank text → (text ≡ [] → ⊥)
    → (n : ℕ) (r : Res CueAnswer) → r ≡ cue_answer (pick_of (idx_of text) n) → r ≡ refuse no_cue
blanks_unpicked = blanks_picked

pub blanks_unreadable : (text file : List ℕ) (q : Wanted) → All blank text → (text ≡ [] → ⊥)
    → (x : Reading) → IsReading text file q x → ⊥
blanks_unreadable = blanks_unread

pub black_otherwise : (text : List ℕ) (t : ListedText) → IsText text t → (text ≡ [] → ⊥) → has_palette t ≡ false
    → palette_of t ≡ replicate 48 0
black_otherwise = bytes-black

-- The writer (`build_demo_spu`): for every picture that it accepts the grammar lists the unit with that width, height
-- and map, and reading the unit gives them back, with no clipped code.
pub a_picture : (w h : ℕ) (px out : List ℕ) (r : Res ℕ) (out' : List ℕ) → demo.Written w h px out r out'
    → RoundTrips w h px r out'
a_picture = DemoProof.claim

-- No code of fewer nibbles than the one that it writes for a run paints just that run, where more of the row is left.
pub shortest_code : (left n : ℕ) (m : Mark) → 1 ≤ n → n ≤ 255 → n < left → Proper m → painted left m ≡ n
    → run_size n ≤ m.size
shortest_code = shortest

-- A line of the list program (`cue_line`): it is not refused exactly where the files have a reading for the cue and
-- stream 0, and then has its values.
pub a_line : (cs : List Cue) (f : List ℕ) (n : ℕ) (l l' : List ℕ) (r : ℕ) → listing.Written (cue_line cs f n) l r l'
    → listing.Exactly cs f n l l'
a_line cs f n l l' r d = ListingProof.claim cs f n l l' r d
