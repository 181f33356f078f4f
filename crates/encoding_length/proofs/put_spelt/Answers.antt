-- One arm for each encoding, and digits are refused in none.
use Rattle.encoding_length.specs.Lengths.{spelt}
use Rattle.encoding_length.proofs.Texts.{same_conversion, ascii_clean, bcd_clean, ascii_clean}
use Rattle.encoding_length.proofs.put_spelt.Goals as goal

pub returns-in-Ascii : goal.returns-in-Ascii
unfolding spelt
returns-in-Ascii c = let r = same_conversion _ _ _ _ _ _ _ (ascii_clean _ c.requires) (rw c.in-Ascii.is) (c.copy.ensures.answers, c.copy.ensures.writes) in record { answers = r.0; writes = r.1 }

pub returns-in-Bcd : goal.returns-in-Bcd
unfolding spelt
returns-in-Bcd c = let r = same_conversion _ _ _ _ _ _ _ (bcd_clean _ c.requires) (rw c.in-Bcd.is) (c.encode.ensures.answers, c.encode.ensures.writes) in record { answers = r.0; writes = r.1 }

pub returns-in-Ebcdic : goal.returns-in-Ebcdic
unfolding spelt
returns-in-Ebcdic c = let r = same_conversion _ _ _ _ _ _ _ (ascii_clean _ c.requires) (rw c.in-Ebcdic.is) (c.encode-in-Ebcdic.ensures.answers, c.encode-in-Ebcdic.ensures.writes) in record { answers = r.0; writes = r.1 }
