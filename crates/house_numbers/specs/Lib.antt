-- House numbers as definitions, and their two round trips.
pub mod Encode
pub mod Decode
pub mod EncodeLaws
pub mod DecodeLaws
pub mod RoundTrip
pub mod Sheet
