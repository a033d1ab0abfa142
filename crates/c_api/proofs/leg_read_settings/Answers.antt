use Rattle.c_encoding.specs.Numbers.{settings_numbers}
use Rattle.c_encoding.proofs.SettingsNumbers.{settings_many, read_refused, read_short, read_ranges, read_written}
use Rattle.c_api.proofs.leg_read_settings.Goals as goal

pub returns-then-read-ne0 : goal.returns-then-read-ne0
returns-then-read-ne0 c =
    let both = read_refused 28 settings_numbers settings_many _ _ _ c.read_settings-read.ensures _ c.if-read-ne0.true c.pack.ensures in
    record { value = both.0; shown = both.1 }

pub returns-then-out-lt28 : goal.returns-then-out-lt28
returns-then-out-lt28 c =
    let both = read_short 28 settings_numbers settings_many _ _ _ c.read_settings-read.ensures c.if-read-ne0.false _
    c.if-out-lt28.true c.pack-then-out-lt28.ensures in record { value = both.0; shown = both.1 }

pub put_settings-requires : goal.put_settings-requires
put_settings-requires c = (read_ranges _ _ c.read_settings-read.ensures c.if-read-ne0.false, c.if-out-lt28.false)

pub returns : goal.returns
returns c =
    let both = read_written 28 settings_numbers settings_many _ _ _ c.read_settings-read.ensures c.if-read-ne0.false _ _
    c.if-out-lt28.false c.pack-2.ensures c.put_settings.ensures in record { value = both.0; shown = both.1 }
