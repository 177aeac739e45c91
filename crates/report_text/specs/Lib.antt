pub mod Access
pub mod EndParts
pub mod Event
pub mod Reply
pub mod Text
pub mod Words
