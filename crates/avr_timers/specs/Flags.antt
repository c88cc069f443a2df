-- Sets of a timer's flags (ATmega128 datasheet, "TIFR" and "ETIFR").
use Rattle.std.specs.Prelude.{◌||◌, ◌&&◌, not, Bool}
use Rattle.avr_timers.specs.declared.flags.TimerFlags.{TimerFlags}

-- the flags that are set in one of two
abbrev pub flags_or : TimerFlags → TimerFlags → TimerFlags
flags_or f g = record {
  tov = f.tov || g.tov;
  ocf_a = f.ocf_a || g.ocf_a;
  ocf_b = f.ocf_b || g.ocf_b;
  ocf_c = f.ocf_c || g.ocf_c;
  icf = f.icf || g.icf;
}

-- the flags of f that are not set in g
abbrev pub flags_without : TimerFlags → TimerFlags → TimerFlags
flags_without f g = record {
  tov = f.tov && not g.tov;
  ocf_a = f.ocf_a && not g.ocf_a;
  ocf_b = f.ocf_b && not g.ocf_b;
  ocf_c = f.ocf_c && not g.ocf_c;
  icf = f.icf && not g.icf;
}

-- whether a flag is set
abbrev pub any_flag : TimerFlags → Bool
any_flag f = f.tov || f.ocf_a || f.ocf_b || f.ocf_c || f.icf
