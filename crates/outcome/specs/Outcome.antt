-- What a definition of the reader answers: a value, or the number of a refusal in the table of docs/FORMAT.md.
-- Assumes nothing: these are definitions.
use Rattle.std.specs.Prelude.{ℕ, ◌≡◌, Bool, true, false, cond, ◌||◌, List, [], ◌∷◌, eqb, Result, Ok, Err}
use Rattle.outcome.specs.declared.Refusal.{Refusal}
use Rattle.outcome.specs.declared.Refusal.TheVariants.{HighByte, BadWidth, BadHeight, BadToken, NoTime, NoPosition, BadTime, LongTime, BadPosition, LargePosition, ShortCues, BadStream, NoCue, PastFile, NoUnit, ShortScratch, NoHead, BadHead, CutParameters, SmallSize, NoBandList, UnknownCommand, NoArea, ManyBands, ShortPixels, ShortCanvas, NoTopField, FieldRanOut, LongInstant, BadSide, NotAllIndices, BadIndex, LongUnit, ShortOutput}
use Rattle.std.specs.Prelude.{Option, Some as some, None as none}

pub data Res (A : Type 0) : Type 0 where
  ok : A → Res A
  refuse : ℕ → Res A

-- the refusals by name
abbrev pub high_byte : ℕ
high_byte = 1

abbrev pub bad_width : ℕ
bad_width = 2

abbrev pub bad_height : ℕ
bad_height = 3

abbrev pub bad_token : ℕ
bad_token = 4

abbrev pub no_time : ℕ
no_time = 5

abbrev pub no_position : ℕ
no_position = 6

abbrev pub bad_time : ℕ
bad_time = 7

abbrev pub long_time : ℕ
long_time = 8

abbrev pub bad_position : ℕ
bad_position = 9

abbrev pub large_position : ℕ
large_position = 41

abbrev pub short_cues : ℕ
short_cues = 10

abbrev pub bad_stream : ℕ
bad_stream = 32

abbrev pub no_cue : ℕ
no_cue = 11

abbrev pub past_file : ℕ
past_file = 12

abbrev pub no_unit : ℕ
no_unit = 13

abbrev pub short_scratch : ℕ
short_scratch = 14

abbrev pub no_head : ℕ
no_head = 15

abbrev pub bad_head : ℕ
bad_head = 16

abbrev pub cut_parameters : ℕ
cut_parameters = 17

abbrev pub small_size : ℕ
small_size = 18

abbrev pub no_band_list : ℕ
no_band_list = 19

abbrev pub unknown_command : ℕ
unknown_command = 20

abbrev pub no_area : ℕ
no_area = 21

abbrev pub many_bands : ℕ
many_bands = 34

abbrev pub short_pixels : ℕ
short_pixels = 22

abbrev pub short_canvas : ℕ
short_canvas = 24

abbrev pub no_top_field : ℕ
no_top_field = 25

abbrev pub field_ran_out : ℕ
field_ran_out = 26

abbrev pub long_instant : ℕ
long_instant = 33

abbrev pub bad_side : ℕ
bad_side = 27

abbrev pub not_all_indices : ℕ
not_all_indices = 28

abbrev pub bad_index : ℕ
bad_index = 29

abbrev pub long_unit : ℕ
long_unit = 30

abbrev pub short_output : ℕ
short_output = 31

-- the number of each
abbrev pub number_of : Refusal → ℕ
number_of HighByte = high_byte
number_of BadWidth = bad_width
number_of BadHeight = bad_height
number_of BadToken = bad_token
number_of NoTime = no_time
number_of NoPosition = no_position
number_of BadTime = bad_time
number_of LongTime = long_time
number_of BadPosition = bad_position
number_of LargePosition = large_position
number_of ShortCues = short_cues
number_of BadStream = bad_stream
number_of NoCue = no_cue
number_of PastFile = past_file
number_of NoUnit = no_unit
number_of ShortScratch = short_scratch
number_of NoHead = no_head
number_of BadHead = bad_head
number_of CutParameters = cut_parameters
number_of SmallSize = small_size
number_of NoBandList = no_band_list
number_of UnknownCommand = unknown_command
number_of NoArea = no_area
number_of ManyBands = many_bands
number_of ShortPixels = short_pixels
number_of ShortCanvas = short_canvas
number_of NoTopField = no_top_field
number_of FieldRanOut = field_ran_out
number_of LongInstant = long_instant
number_of BadSide = bad_side
number_of NotAllIndices = not_all_indices
number_of BadIndex = bad_index
number_of LongUnit = long_unit
number_of ShortOutput = short_output

-- an answer of the code, by the number of its refusal
abbrev pub answered : {A : Type 0} → Result A Refusal → Res A
answered (Ok a) = ok a
answered (Err e) = refuse (number_of e)

-- the table of refusals (FORMAT 9): every number that is returned for one, and no other, in the table's order
abbrev pub refusals : List ℕ
refusals =
    high_byte ∷ bad_width ∷ bad_height ∷ bad_token ∷ no_time ∷ no_position ∷ bad_time ∷ long_time ∷
    bad_position ∷ large_position ∷ short_cues ∷ bad_stream ∷ no_cue ∷ past_file ∷ no_unit ∷ short_scratch ∷ no_head ∷
    bad_head ∷ cut_parameters ∷ small_size ∷ no_band_list ∷ unknown_command ∷ no_area ∷ many_bands ∷ short_pixels ∷
    short_canvas ∷ no_top_field ∷ field_ran_out ∷ long_instant ∷ bad_side ∷ not_all_indices ∷ bad_index ∷
    long_unit ∷ short_output ∷ []

abbrev pub is_one_of : ℕ → List ℕ → Bool
is_one_of n [] = false
is_one_of n (m ∷ ms) = eqb n m || is_one_of n ms

-- n is a number of the table
pub record InTable (n : ℕ) : Type 0 where
  pub listed_there : is_one_of n refusals ≡ true

-- r where the test holds, else the refusal n: what is asked first refuses first
abbrev pub check : {A : Type 0} → Bool → ℕ → Res A → Res A
check t n r = cond t r (refuse n)

-- what was found, or the refusal n
abbrev pub need : {A : Type 0} → ℕ → Option A → Res A
need n (some a) = ok a
need n none = refuse n

abbrev pub and_then : {A B : Type 0} → Res A → (A → Res B) → Res B
and_then (ok a) k = k a
and_then (refuse n) k = refuse n

-- a in front of what follows
abbrev pub cons_res : {A : Type 0} → A → Res (List A) → Res (List A)
cons_res a (ok l) = ok (a ∷ l)
cons_res a (refuse n) = refuse n

-- what was listed; nothing, where it was refused
abbrev pub listed : {A : Type 0} → Res (List A) → List A
listed (ok l) = l
listed (refuse n) = []

-- the list k of what was found; nothing, where it was refused
abbrev pub listed_by : {A B : Type 0} → Res A → (A → List B) → List B
listed_by (ok a) k = k a
listed_by (refuse n) k = []

-- f of what was found
abbrev pub map_res : {A B : Type 0} → (A → B) → Res A → Res B
map_res f (ok a) = ok (f a)
map_res f (refuse n) = refuse n

-- it was not refused
abbrev pub IsOk : {A : Type 0} → Res A → Type 0
IsOk (ok a) = Unit {0}
IsOk (refuse n) = ⊥

-- the number of the refusal, 0 where there is none
abbrev pub refusal_of : {A : Type 0} → Res A → ℕ
refusal_of (ok a) = 0
refusal_of (refuse n) = n

-- the number of a refusal has the property P
abbrev pub RefusedWith : {A : Type 0} → (ℕ → Type 0) → Res A → Type 0
RefusedWith P (ok a) = Unit {0}
RefusedWith P (refuse n) = P n

-- and that is to be in the table
abbrev pub Numbered : {A : Type 0} → Res A → Type 0
Numbered r = RefusedWith InTable r

-- the number r that is returned for x is 0 only where x is not refused, and otherwise a number of the table
pub record Returned {A : Type 0} (x : Res A) (r : ℕ) : Type 0 where
  pub accepted : r ≡ 0 → IsOk x
  pub in_table : (r ≡ 0 → ⊥) → InTable r
