use Rattle.c_encoding.specs.Numbers.{margin_numbers}
use Rattle.c_encoding.proofs.SettingsNumbers.{margin_many, read_refused, read_short, read_written}
use Rattle.c_api.proofs.leg_read_margin.Goals as goal

pub returns-then-taken-ne0 : goal.returns-then-taken-ne0
returns-then-taken-ne0 c =
    let both = read_refused 8 margin_numbers margin_many _ _ _ c.read_settings-taken.ensures _ c.if-taken-ne0.true c.pack.ensures in
    record { value = both.0; shown = both.1 }

pub returns-then-out-lt8 : goal.returns-then-out-lt8
returns-then-out-lt8 c =
    let both = read_short 8 margin_numbers margin_many _ _ _ c.read_settings-taken.ensures c.if-taken-ne0.false _
    c.if-out-lt8.true c.pack-then-out-lt8.ensures in record { value = both.0; shown = both.1 }

pub put_margin-requires : goal.put_margin-requires
put_margin-requires c = c.if-out-lt8.false

pub returns : goal.returns
returns c =
    let both = read_written 8 margin_numbers margin_many _ _ _ c.read_settings-taken.ensures c.if-taken-ne0.false _ _ c.if-out-lt8.false
    c.pack-2.ensures c.put_margin.ensures in record { value = both.0; shown = both.1 }
