-- 01's refusal numbers: each cause by name, and its number. A cause is given exactly when 01's table says, for the first test that fails.
-- Each name stands below with its number and what 01 says of it.
--
--   number_of c  == 01's number of the cause c
--
-- Assumes nothing: these are definitions.
use Rattle.std.specs.Prelude.{ℕ}
use Rattle.refusal.specs.declared.Cause.{Cause}
use Rattle.refusal.specs.declared.Cause.TheVariants.{NotesTooShort, MessageTooShort, MtiNotDigits, BitmapIncomplete, PastTheEnd, LengthNotDigits, LengthOverTable, TextNotAscii, NoteMalformed, NumberNotAllowed, OutsideValues, LengthNotAllowed, EndDiffers, OutputTooShort, FieldAbsent, ClassBroken, PanFails, AmountZero, RequiredMissing, DateOrTimeWrong, NotDigits, NotBcd, ByteCountWrong, NoAsciiMeaning, LengthNeedsDigits, InputTooLong, BitmapOverMost}

abbrev pub number_of : Cause → ℕ
number_of NotesTooShort = 1
number_of MessageTooShort = 2
number_of MtiNotDigits = 3
number_of BitmapIncomplete = 4
number_of PastTheEnd = 5
number_of LengthNotDigits = 6
number_of LengthOverTable = 7
number_of TextNotAscii = 8
number_of NoteMalformed = 9
number_of NumberNotAllowed = 10
number_of OutsideValues = 11
number_of LengthNotAllowed = 12
number_of EndDiffers = 13
number_of OutputTooShort = 14
number_of FieldAbsent = 15
number_of ClassBroken = 16
number_of PanFails = 17
number_of AmountZero = 18
number_of RequiredMissing = 19
number_of DateOrTimeWrong = 20
number_of NotDigits = 21
number_of NotBcd = 22
number_of ByteCountWrong = 23
number_of NoAsciiMeaning = 24
number_of LengthNeedsDigits = 25
number_of InputTooLong = 26
number_of BitmapOverMost = 27

-- 1: the reader's notes buffer is under 1,531 bytes
abbrev pub notes_too_short : Cause
notes_too_short = NotesTooShort

-- 2: the message is under 12 bytes; a packed one under 10 (02, P3)
abbrev pub message_too_short : Cause
message_too_short = MessageTooShort

-- 3: the MTI has a non-digit
abbrev pub mti_not_digits : Cause
mti_not_digits = MtiNotDigits

-- 4: the second or third bitmap is incomplete
abbrev pub bitmap_incomplete : Cause
bitmap_incomplete = BitmapIncomplete

-- 5: length digits or content run past the end
abbrev pub past_the_end : Cause
past_the_end = PastTheEnd

-- 6: a length byte is not 0-9
abbrev pub length_not_digits : Cause
length_not_digits = LengthNotDigits

-- 7: the length is over the table's
abbrev pub length_over_table : Cause
length_over_table = LengthOverTable

-- 8: a text byte is over 0x7F
abbrev pub text_not_ascii : Cause
text_not_ascii = TextNotAscii

-- 9: a note is missing, cut or of the wrong kind, or its count is not 1-3
abbrev pub note_malformed : Cause
note_malformed = NoteMalformed

-- 10: a number is not above the last; or is 0, 1, 65; or is over 192 in a field check, else over 64 times the count
abbrev pub number_not_allowed : Cause
number_not_allowed = NumberNotAllowed

-- 11: offset plus length is over the values' size
abbrev pub outside_values : Cause
outside_values = OutsideValues

-- 12: a length is not allowed (in cleaning: too long only)
abbrev pub length_not_allowed : Cause
length_not_allowed = LengthNotAllowed

-- 13: the end note differs from the length to be written
abbrev pub end_differs : Cause
end_differs = EndDiffers

-- 14: the output is too short
abbrev pub output_too_short : Cause
output_too_short = OutputTooShort

-- 15: the field is absent
abbrev pub field_absent : Cause
field_absent = FieldAbsent

-- 16: the class is broken
abbrev pub class_broken : Cause
class_broken = ClassBroken

-- 17: the PAN check fails
abbrev pub pan_fails : Cause
pan_fails = PanFails

-- 18: the amount is all zeros
abbrev pub amount_zero : Cause
amount_zero = AmountZero

-- 19: a required field is missing
abbrev pub required_missing : Cause
required_missing = RequiredMissing

-- 20: a date or time is wrong
abbrev pub date_or_time_wrong : Cause
date_or_time_wrong = DateOrTimeWrong

-- 21: a BCD source is not digits, nor a plain n content that is to be packed (02, P3)
abbrev pub not_digits : Cause
not_digits = NotDigits

-- 22: a BCD half-byte is over 9, or the spare leading digit is not 0; so in packed messages (02, P3)
abbrev pub not_bcd : Cause
not_bcd = NotBcd

-- 23: the byte count is wrong for the digits asked
abbrev pub byte_count_wrong : Cause
byte_count_wrong = ByteCountWrong

-- 24: a byte has no ASCII meaning
abbrev pub no_ascii_meaning : Cause
no_ascii_meaning = NoAsciiMeaning

-- 25: a length needs more digits than given, or these are not 2 or 3
abbrev pub length_needs_digits : Cause
length_needs_digits = LengthNeedsDigits

-- 26: the till program's input is over 60,000 bytes
abbrev pub input_too_long : Cause
input_too_long = InputTooLong

-- 27, which 01 does not have: there is a bitmap more than is taken; while three are taken, no input has it
abbrev pub bitmap_over_most : Cause
bitmap_over_most = BitmapOverMost
