mod RoomsTold
mod ToldFiles
