-- The civil calendar, told from day to day: day number 0 is Saturday 1 January 2000.
use Rattle.std.specs.Prelude.{ℕ, zero, suc, ◌+◌, ◌%◌, Bool, true, false, cond, not, ◌&&◌, ◌||◌, ◌==◌, nat_le, nat_lt}

pub data Weekday : Type 0 where
  Saturday Sunday Monday Tuesday Wednesday Thursday Friday : Weekday

pub record Date : Type 0 where
  pub year : ℕ
  pub month : ℕ
  pub day : ℕ
  pub weekday : Weekday

abbrev pub next_weekday : Weekday → Weekday
next_weekday Saturday = Sunday
next_weekday Sunday = Monday
next_weekday Monday = Tuesday
next_weekday Tuesday = Wednesday
next_weekday Wednesday = Thursday
next_weekday Thursday = Friday
next_weekday Friday = Saturday

-- every fourth year, but for a full century that 400 does not divide
abbrev pub leap : ℕ → Bool
leap year = year % 4 == 0 && (not (year % 100 == 0) || year % 400 == 0)

abbrev pub month_length : ℕ → ℕ → ℕ
month_length year month =
    cond (month == 2) (cond (leap year) 29 28)
    (cond (month == 4 || (month == 6 || (month == 9 || month == 11))) 30 31)

abbrev pub tomorrow : Date → Date
tomorrow d =
    cond (nat_lt d.day (month_length d.year d.month))
    (record { year = d.year; month = d.month; day = d.day + 1; weekday = next_weekday d.weekday })
    (cond (nat_lt d.month 12)
    (record { year = d.year; month = d.month + 1; day = 1; weekday = next_weekday d.weekday })
    (record { year = d.year + 1; month = 1; day = 1; weekday = next_weekday d.weekday }))

-- the date of each day number
unfoldable pub date : ℕ → Date
date zero = record { year = 2000; month = 1; day = 1; weekday = Saturday }
date (suc n) = tomorrow (date n)

-- 1 July to 30 September
abbrev pub summer : Date → Bool
summer d = nat_le 7 d.month && nat_le d.month 9

abbrev pub weekend : Weekday → Bool
weekend Saturday = true
weekend Sunday = true
weekend Monday = false
weekend Tuesday = false
weekend Wednesday = false
weekend Thursday = false
weekend Friday = false

-- a Saturday, a Sunday, or a day whose reading has the rest mark
abbrev pub rest_day : Date → Bool → Bool
rest_day d mark = weekend d.weekday || mark

-- 31 December 2099
abbrev pub last_day : ℕ
last_day = 36524

-- whether a day number and a half-hour exist
abbrev pub on_calendar : ℕ → ℕ → Bool
on_calendar day half_hour = nat_le day last_day && nat_lt half_hour 48
